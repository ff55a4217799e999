-- The first of the greatest, under a test that says of two items whether the first is below the second.
use Rattle.std.specs.Prelude.{◌≡◌, ℕ, ◌+◌, Bool, cond, List, [], ◌∷◌, length, Some, None, Option}
use Rattle.std.specs.declared.cmp.Ordering.{Ordering}
use Rattle.std.specs.Cmp.{IsTotalOrder}
use Rattle.std.specs.Ordering.{is_lt}
use Rattle.std.specs.List.{IsFirstBest}

-- the test of a total order
abbrev pub below : {X : Type 0} {R : X → X → Ordering} → IsTotalOrder R → X → X → Bool
below {R = R} o x y = is_lt (R x y)

-- the greatest so far stands at `at`, and the items from place i on are still to be seen
abbrev pub greatest_from : {X : Type 0} → (X → X → Bool) → X → ℕ → ℕ → List X → ℕ
greatest_from lt greatest at i [] = at
greatest_from lt greatest at i (x ∷ xs) =
    cond (lt greatest x) (greatest_from lt x i (i + 1) xs) (greatest_from lt greatest at (i + 1) xs)

abbrev pub first_greatest : {X : Type 0} → (X → X → Bool) → List X → Option ℕ
first_greatest lt [] = None
first_greatest lt (x ∷ xs) = Some (greatest_from lt x 0 1 xs)

-- the same by comparison: no item is above the one at the place, and each before the place is below it
abbrev pub FirstGreatest : {X : Type 0} → (X → X → Bool) → List X → Option ℕ → Type 0
FirstGreatest lt items None = length items ≡ 0
FirstGreatest lt items (Some at) = IsFirstBest (λ x y. lt y x) items (length items) at
