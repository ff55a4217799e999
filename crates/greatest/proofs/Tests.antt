-- Tests that agree on the items find the same first greatest.
use Rattle.std.proofs.Common.{◌≡◌, ℕ, ◌+◌, Bool, cond, List, [], ◌∷◌, Some, refl, ap}
use Rattle.std.specs.List.{All}
use Rattle.std.proofs.lemmas.List.Elements.{All-head, All-tail}
use Rattle.greatest.specs.Greatest.{greatest_from, first_greatest}

module _ {X : Type 0} (lt lt' : X → X → Bool) (P : X → Type 0) (agree : (x y : X) → P x → P y → lt x y ≡ lt' x y) where
  same_from : (greatest : X) (at i : ℕ) (items : List X) → P greatest → All P items →
      greatest_from lt greatest at i items ≡ greatest_from lt' greatest at i items
  same_from greatest at i [] p all = refl
  same_from greatest at i (x ∷ items) p all = λ j.
      cond (agree greatest x p (All-head P x items all) j) (same_from x i (i + 1) items (All-head P x items all) (All-tail P x items all) j)
      (same_from greatest at (i + 1) items p (All-tail P x items all) j)

  pub same_greatest : (items : List X) → All P items → first_greatest lt items ≡ first_greatest lt' items
  same_greatest [] all = refl
  same_greatest (x ∷ items) all = ap Some (same_from x 0 1 items (All-head P x items all) (All-tail P x items all))
