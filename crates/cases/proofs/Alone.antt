-- A rate among others: where it does not pass, its holder is not the instigator; where it passes and every other is
-- lower, its holder is.
use Rattle.std.proofs.Common.{◌≡◌, ℕ, ◌+◌, Bool, true, false, cond, List, [], ◌∷◌, ◌++◌, length, Some, None, Option, sym, refl, ap, ◌∙◌, subst, ⊎_elim, true≢false, arith}
use Rattle.std.proofs.lemmas.Bool.{cases_Bool}
use Rattle.std.proofs.lemmas.Bool.Decides.{nat_tests}
use Rattle.std.specs.Bool.{then_some}
use Rattle.std.specs.List.{All}
use Rattle.std.proofs.lemmas.List.Elements.{All-head, All-tail}
use Rattle.greatest.specs.Greatest.{greatest_from, first_greatest}
use Rattle.rates.specs.Rates.{true_at, if_true, greatest_if, lower_rate, passing, instigator_of}
use Rattle.rates.specs.declared.rate.Rate.{Rate}

module _ {X : Type 0} (test : X → Bool) where
  here : (x : X) (before after : List X) → true_at test (length before) (before ++ x ∷ after) ≡ test x
  here x [] after = refl
  here x (y ∷ ys) after = here x ys after

  found_meets : (xs : List X) (found : Option ℕ) (at : ℕ) → if_true test xs found ≡ Some at → true_at test at xs ≡ true
  found_meets xs None at e = absurd (let z : ◌≡◌ {A = ℕ} 0 1 = cc in omega (arith, z))
  found_meets xs (Some k) at e = ⊎_elim
      (λ (p : true_at test k xs ≡ true).
      let same : Some k ≡ Some at = ap (λ b. then_some b k) (sym p) ∙ e in
      let there : k ≡ at = cc in subst (λ (n : ℕ). true_at test n xs ≡ true) there p)
      (λ (p : true_at test k xs ≡ false).
      let none : None ≡ Some at = ap (λ b. then_some b k) (sym p) ∙ e in
      absurd (let z : ◌≡◌ {A = ℕ} 0 1 = cc in omega (arith, z)))
      (cases_Bool (true_at test k xs))

  pub never_greatest : (lt : X → X → Bool) (x : X) → test x ≡ false → (before after : List X) →
      greatest_if lt test (before ++ x ∷ after) ≡ Some (length before) → ⊥
  never_greatest lt x low before after e =
      let xs = before ++ x ∷ after in
      true≢false (sym (found_meets xs (first_greatest lt xs) (length before) e) ∙ here x before after ∙ low)

not_above : (x y : Rate) → lower_rate x y ≡ true → lower_rate y x ≡ false
not_above x y e = grind (arith, nat_tests)

module _ (rate : Rate) where
  abbrev Lower : Rate → Type 0
  Lower r = lower_rate r rate ≡ true

  stays : (at i : ℕ) (after : List Rate) → All Lower after → greatest_from lower_rate rate at i after ≡ at
  stays at i [] all = refl
  stays at i (r ∷ rs) all =
      ap (λ b. cond b (greatest_from lower_rate r i (i + 1) rs) (greatest_from lower_rate rate at (i + 1) rs)) (not_above r rate (All-head Lower r rs all))
      ∙ stays at (i + 1) rs (All-tail Lower r rs all)

  reached : (g : Rate) (at i : ℕ) (before after : List Rate) → Lower g → All Lower before → All Lower after →
      greatest_from lower_rate g at i (before ++ rate ∷ after) ≡ i + length before
  reached g at i [] after low all rest =
      ap (λ b. cond b (greatest_from lower_rate rate i (i + 1) after) (greatest_from lower_rate g at (i + 1) after)) low
      ∙ stays i (i + 1) after rest ∙ omega arith
  reached g at i (r ∷ rs) after low all rest =
      let on = λ (h : Rate) (k : ℕ) (l : Lower h). reached h k (i + 1) rs after l (All-tail Lower r rs all) rest in
      ⊎_elim
      (λ (t : lower_rate g r ≡ true).
      ap (λ b. cond b (greatest_from lower_rate r i (i + 1) (rs ++ rate ∷ after)) (greatest_from lower_rate g at (i + 1) (rs ++ rate ∷ after))) t
      ∙ on r i (All-head Lower r rs all) ∙ omega arith)
      (λ (t : lower_rate g r ≡ false).
      ap (λ b. cond b (greatest_from lower_rate r i (i + 1) (rs ++ rate ∷ after)) (greatest_from lower_rate g at (i + 1) (rs ++ rate ∷ after))) t
      ∙ on g at low ∙ omega arith)
      (cases_Bool (lower_rate g r))

  found : (before after : List Rate) → All Lower before → All Lower after → first_greatest lower_rate (before ++ rate ∷ after) ≡ Some (length before)
  found [] after all rest = ap Some (stays 0 1 after rest)
  found (r ∷ rs) after all rest = ap Some (reached r 0 1 rs after (All-head Lower r rs all) (All-tail Lower r rs all) rest ∙ omega arith)

  pub sole_instigator : passing rate ≡ true → (before after : List Rate) → All Lower before → All Lower after →
      instigator_of (before ++ rate ∷ after) ≡ Some (length before)
  sole_instigator high before after all rest =
      ap (if_true passing (before ++ rate ∷ after)) (found before after all rest)
      ∙ ap (λ b. then_some b (length before)) (here passing rate before after ∙ high)
