-- Each arm writes the figure, and the byte after it follows.
use Rattle.std.proofs.Common.{decimal, sym, ap, ◌∙◌, arith, w64, SFits, to_z, of_z, rules}
use Rattle.std.specs.Fmt.{signed_decimal}
use Rattle.std.proofs.lemmas.Int.{to_z-of_z}
use Rattle.text.specs.Rows.{ended}
use Rattle.text.specs.declared.Figure.TheVariants.{Integer}
use Rattle.text.proofs.Steps.{length_ended}
use Rattle.text.proofs.Tails.{Begun, begun_put}
use Rattle.text.proofs.put_figure.Goals as goal
use Rattle.text.proofs.put_figure.Goals.{Joined-figure, in-Natural, in-Integer}

begun : (c : Joined-figure) →
    Begun (ended c.args.figure c.args.end) c.args.end c.match-figure.written c.match-figure.out c.args.out.now
begun c =
    elim c.match-figure.branch [
      | in-Natural w ↦ record {
        front = decimal w.in-Natural.n;
        whole = ap (λ figure. ended figure c.args.end) w.in-Natural.is;
        size = w.written-is ∙ w.put_natural-written.ensures.value;
        holds = w.out-is ∙ w.put_natural-written.ensures.after;
      }
      | in-Integer w ↦
          let z = w.in-Integer.z in
          let fit : SFits w64 z = search rules in
          let same = w.in-Integer.is ∙ ap Integer (sym (to_z-of_z w64 z fit)) in
          record {
            front = signed_decimal (to_z w64 (of_z w64 z));
            whole = ap (λ figure. ended figure c.args.end) same;
            size = w.written-is ∙ w.put_integer-written.ensures.value;
            holds = w.out-is ∙ w.put_integer-written.ensures.after;
          }
    ]

pub returns-clause-after : goal.returns-clause-after
returns-clause-after c =
    let b = begun (goal.at.returns-clause-after c).Joined-figure in
    let put = begun_put b (omega (arith, length_ended c.args.figure c.args.end)) in
    search (rules, put)
