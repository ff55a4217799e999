use Rattle.std.proofs.Common.{◌≡◌, ℕ, ◌*◌, ◌/◌, ◌≤◌, true, false, cond, eqb, ltb, List, [], ◌∷◌, ◌++◌, count_by, ap, arith, pos, negsuc, ◌-ℤ◌, nat_abs, refl}
use Rattle.std.proofs.lemmas.Bool.Decides.{nat_tests}
use Rattle.std.proofs.lemmas.List.Sums.{sum_by-cons}
use Rattle.std.specs.Fmt.{digits}
use Rattle.calendar.specs.Gregorian.{month_length, first_day}
use Rattle.shares.specs.declared.figures.Figures.{Figures}
use Rattle.shares.specs.Month.{imbalance, stirred, pool_of, carry_size, with_sign, share_of}
use Rattle.rates.specs.Rates.{rate_of, lower_rate, passing}
use Rattle.cases.proofs.Alone.{never_greatest, sole_instigator}
use Rattle.cases.proofs.worked_cases.Goals as goal

counted : (before after : List Figures) (f : Figures) → stirred f ≡ true → 1 ≤ count_by stirred (before ++ f ∷ after)
counted [] after f t =
    let one : ◌≡◌ {A = ℕ} (cond (stirred f) 1 0) 1 = ap (λ b. cond b 1 0) t in
    omega (arith, one, sum_by-cons (λ g. cond (stirred g) 1 0) f after)
counted (g ∷ gs) after f t =
    omega (arith, counted gs after f t, sum_by-cons (λ h. cond (stirred h) 1 0) g (gs ++ f ∷ after))

-- a stirred shipper with no receipts
settles_all_lem : (before after : List Figures) (f : Figures) → f.receipts ≡ 0 → imbalance f ≡ negsuc 0 →
    share_of (pool_of (before ++ f ∷ after)) f ≡ record { imbalance = negsuc 0; carry = pos 0; settled = negsuc 0 }
settles_all_lem before after f none e =
    let pool = pool_of (before ++ f ∷ after) in
    let stir : stirred f ≡ true = (λ j. ltb (none j) (20 * nat_abs (e j))) in
    let more : 1 ≤ pool.count = counted before after f stir in
    let some : eqb pool.count 0 ≡ false = grind (arith, nat_tests) in
    let nothing : carry_size pool f ≡ 0 = (λ j. cond (some j) (nat_abs (e j)) (cond (ltb (none j) (20 * nat_abs (e j))) (none j / 20)
    (nat_abs (e j) * pool.carried / pool.moved))) in
    λ j. record { imbalance = e j; carry = with_sign (e j) (nothing j); settled = e j -ℤ with_sign (e j) (nothing j) }

pub returns : goal.returns
unfolding first_day month_length digits
returns c = record {
  facts = record {
    booked = refl;
    booked_more = refl;
    corrected = refl;
    calm_at_twentieth = λ f r e j. ltb (r j) (20 * nat_abs (e j));
    stirred_past_it = λ f r e j. ltb (r j) (20 * nat_abs (e j));
    stirred_with_none = λ f r e j. ltb (r j) (20 * nat_abs (e j));
    settles_all = settles_all_lem;
    no_instigator = λ before after e. never_greatest passing lower_rate (rate_of 2000 2100) refl before after e;
    at_twentieth = λ lt before after e. never_greatest (λ f. ltb f.1 (20 * f.0)) lt (100, 2000) refl before after e;
    instigates = λ before after all rest. sole_instigator (rate_of 2000 2101) refl before after all rest;
    indexed = refl;
    costed = refl;
    april = refl;
    end = refl;
    carried = refl;
    moved = refl;
    statement = refl;
  };
}
