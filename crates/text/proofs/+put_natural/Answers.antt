-- The digits before the last are those of the tenth, and the last one follows them.
use Rattle.std.proofs.Common.{ℕ, ◌+◌, ◌/◌, ◌%◌, ◌^◌, ◌<◌, [], decimal, ◌∙◌, arith, rules}
use Rattle.std.proofs.lemmas.Fmt.{decimal_step}
use Rattle.text.proofs.Decimals.{one_digit, length_more}
use Rattle.text.proofs.Tails.{Begun, begun_size, begun_put}
use Rattle.text.proofs.+put_natural.Goals as goal
use Rattle.text.proofs.+put_natural.Goals.{Joined-n-lt10, then-n-lt10, else-n-lt10}

begun : (t : ℕ) (c : Joined-n-lt10 t) →
    Begun (decimal c.args.n) (48 + c.args.n % 10) c.if-n-lt10.place c.if-n-lt10.out c.args.out.now
begun t c =
    let n = c.args.n in
    let fit : n < 2 ^ 64 = omega arith in
    elim c.if-n-lt10.branch [
      | then-n-lt10 w ↦ record { front = []; whole = one_digit n w.if-n-lt10.true; size = w.place-is; holds = w.out-is }
      | else-n-lt10 w ↦ record {
        front = decimal (n / 10);
        whole = decimal_step n w.if-n-lt10.false fit;
        size = w.place-is ∙ w.put_natural-place.ensures.value;
        holds = w.out-is ∙ w.put_natural-place.ensures.after;
      }
    ]

pub put_natural-place-requires : goal.put_natural-place-requires
put_natural-place-requires t c =
    let n = c.args.n in
    let fit : n < 2 ^ 64 = omega arith in (search rules, omega (arith, length_more n c.if-n-lt10.false fit))

pub bounds-out-place : goal.bounds-out-place
bounds-out-place t c = omega (arith, begun_size (begun t (goal.at.bounds-out-place t c).Joined-n-lt10), c.if-n-lt10.auto.out)

pub returns : goal.returns
returns t c =
    let b = begun t (goal.at.returns t c).Joined-n-lt10 in record { value = begun_size b; after = begun_put b c.requires }
