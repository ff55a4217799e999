-- The instigator by the search is the one by comparison.
use Rattle.std.proofs.Common.{◌≡◌, ℕ, ◌*◌, ◌≤◌, true, false, List, get_or, Some, None, Option, sym, ap, ◌∙◌, subst, ⊎_elim, mul-le-mul_right, mul_assoc, mul_comm, le_of_mul-le-mul_right, arith, ltb-false}
use Rattle.std.proofs.lemmas.Bool.{cases_Bool}
use Rattle.std.proofs.lemmas.Bool.Decides.{nat_tests}
use Rattle.std.proofs.lemmas.Option.{slice_get-get_or}
use Rattle.std.specs.Bool.{then_some}
use Rattle.std.specs.Option.{MatchOption, option_map_or}
use Rattle.greatest.specs.Greatest.{FirstGreatest}
use Rattle.rates.specs.Rates.{cross, lower_rate, passing, passing_at, if_true, Instigator}
use Rattle.rates.specs.declared.rate.Rate.{Rate}

not_lower : (a b : Rate) → lower_rate a b ≡ false → cross b a ≤ cross a b
not_lower a b e = grind (arith, nat_tests)

-- a rate that is not above one which does not pass does not pass
low_below : (g x : Rate) → passing g ≡ false → lower_rate g x ≡ false → passing x ≡ false
low_below g x p l =
    let low : 20 * g.gap ≤ g.plan = ltb-false g.plan (20 * g.gap) p in
    let less : cross x g ≤ cross g x = not_lower g x l in
    let scaled : 20 * x.gap * g.plan ≤ x.plan * g.plan = omega (
      arith,
      less,
      mul_assoc 20 x.gap g.plan,
      mul_assoc 20 g.gap x.plan,
      mul-le-mul_right x.plan low,
      mul_comm g.plan x.plan,
    ) in
    let high : 20 * x.gap ≤ x.plan = le_of_mul-le-mul_right scaled g.some in
    grind (arith, nat_tests)

module _ (rates : List Rate) where
  -- where the first greatest does not pass, none does
  none_passes : (at : ℕ) → FirstGreatest lower_rate rates (Some at) → passing_at at rates ≡ false → Instigator rates None
  none_passes at first p k d h =
      let here : passing_at at rates ≡ passing (get_or rates at d) =
      ap (λ r. option_map_or passing r false) (slice_get-get_or rates at d first.0) in
      low_below (get_or rates at d) (get_or rates k d) (sym here ∙ p) (first.1 k d h)

  -- the first greatest, where it passes, is the instigator
  pub instigator_is : (found : Option ℕ) → FirstGreatest lower_rate rates found → Instigator rates (if_true passing rates found)
  instigator_is None empty = λ k d h. absurd (omega arith)
  instigator_is (Some at) first = ⊎_elim
      (λ (t : passing_at at rates ≡ true). subst (λ b. Instigator rates (then_some b at)) (sym t) (t, first))
      (λ (t : passing_at at rates ≡ false). subst (λ b. Instigator rates (then_some b at)) (sym t) (none_passes at first t))
      (cases_Bool (passing_at at rates))

  -- a found rate is kept where it passes
  pub filtered : (found kept : Option ℕ) → MatchOption found (kept ≡ None) (λ at. kept ≡ if_true passing rates (Some at)) → kept ≡ if_true passing rates found
  filtered None kept e = e
  filtered (Some at) kept e = e
