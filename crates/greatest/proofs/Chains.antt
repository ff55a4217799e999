-- The search as a chain: of the items with their places, `reduce` keeps the first greatest.
use Rattle.std.proofs.Common.{◌≡◌, ℕ, zero, suc, ◌+◌, ◌<◌, Bool, true, false, cond, List, [], ◌∷◌, map, length, get_or, drop, Some, None, Option, Ordering, sym, refl, ap, ◌∙◌, subst, arith}
use denote.Param.Members.{Mut}
use denote.Ref.{Bor}
use Rattle.std.specs.Cmp.{IsTotalOrder, IsStrictWeakOrder}
use Rattle.std.specs.Iterator.{ActsAsOnTwo, DrainsIf}
use Rattle.std.specs.Iterator.Runs.{Run, WholeRun, IsReduceRun, YieldsRun}
use Rattle.std.specs.Option.{MatchOption, option_map}
use Rattle.std.specs.List.{IsFirstBest, enumerate_from, fold, reduce}
use Rattle.std.proofs.lemmas.Iterator.{YieldsList, items_from_drains}
use Rattle.std.proofs.lemmas.List.{at_drop_more, at_drop_all, get_or_default}
use Rattle.std.proofs.lemmas.List.MinMax.{ranks_by, IsStrictWeakOrder-flip, IsFirstBest-none, IsFirstBest-takes, IsFirstBest-keeps}
use Rattle.greatest.specs.Greatest.{greatest_from, first_greatest, below, FirstGreatest}

-- of the best so far and the next item, each with its place
abbrev pub better : {X : Type 0} → (X → X → Bool) → ℕ × X → ℕ × X → ℕ × X
better lt best next = cond (lt best.1 next.1) next best

module _ {X : Type 0} (lt : X → X → Bool) where
  kept_at : (xs : List X) (x : X) (at i : ℕ) → (fold (better lt) (at, x) (enumerate_from i xs)).0 ≡ greatest_from lt x at i xs
  kept_at [] x at i = refl
  kept_at (y ∷ ys) x at i =
      elim (lt x y) as (λ (b : Bool). (fold (better lt) (cond b (i, y) (at, x)) (enumerate_from (i + 1) ys)).0
      ≡ cond b (greatest_from lt y i (i + 1) ys) (greatest_from lt x at (i + 1) ys)) [
        | true ↦ kept_at ys y i (i + 1)
        | false ↦ kept_at ys x at (i + 1)
      ]

  pub place_of_best : (items : List X) → option_map (λ p. p.0) (reduce (better lt) (enumerate_from 0 items)) ≡ first_greatest lt items
  place_of_best [] = refl
  place_of_best (x ∷ xs) = ap Some (kept_at xs x 0 1)

-- ---- a `reduce` of references is one of what they refer to
none_of : {A : Type 0} (xs : List A) → length xs ≡ 0 → xs ≡ []
none_of [] e = refl
none_of (x ∷ xs) e = absurd (omega arith)

module _ {A B : Type 0} (v : A → B) (h : A → A → A) (k : B → B → B) (same : (x y : A) → v (h x y) ≡ k (v x) (v y)) where
  seen_fold : (x : A) (xs : List A) → v (fold h x xs) ≡ fold k (v x) (map v xs)
  seen_fold x [] = refl
  seen_fold x (y ∷ ys) = seen_fold (h x y) ys ∙ ap (λ b. fold k b (map v ys)) (same x y)

  module _ {S : Type 0} {steps : S → Option A → S → Type 0} {s : S} {all : List B} where
    seen_items : (p : Run steps) → p.from ≡ s → p.whole ≡ true → YieldsList steps v s all → map v p.items ≡ all
    unfolding YieldsRun
    seen_items p start whole road =
        items_from_drains p.items (subst (λ u. DrainsIf steps (Unit {0}) u p.items) start (p.gave.0.0, p.gave.0.1, λ _. p.gave.0.2 whole)) road

    seen_reduce : {F : Type 0} {g : Mut F (A × (A × Unit {0})) A} {f : F} (r : Option A) → ActsAsOnTwo g f h →
        WholeRun steps s (λ p. MatchOption r (p.len ≡ 0) (IsReduceRun p g f)) → YieldsList steps v s all → option_map v r ≡ reduce k all
    seen_reduce None acts run road =
        let p = run.0 in
        let e : length p.items ≡ 0 = sym p.long ∙ run.3 in
        ap (reduce k) (ap (map v) (sym (none_of p.items e)) ∙ seen_items p run.1 run.2 road)
    seen_reduce (Some y) acts run road =
        let p = run.0 in
        let m = run.3.1 in
        ap Some (ap v (m.3 h acts) ∙ seen_fold m.0 m.1) ∙ ap (reduce k) (ap (map v) (sym m.2) ∙ seen_items p run.1 run.2 road)

-- ---- no item is above the one that is found, and each before it is below it
module _ {X : Type 0} {R : X → X → Ordering} (o : IsTotalOrder R) (items : List X) where
  ranked : IsStrictWeakOrder (λ x y. below o y x)
  ranked = IsStrictWeakOrder-flip (below o) (ranks_by o (λ x. x))

  first_from : (n i best : ℕ) (y : X) → i + n ≡ length items → y ≡ get_or items best y → IsFirstBest (λ x y. below o y x) items i best →
      IsFirstBest (λ x y. below o y x) items (length items) (greatest_from (below o) y best i (drop i items))
  first_from zero i best y e at kept =
      subst (λ k. IsFirstBest (λ x y. below o y x) items (length items) k) (sym (at_drop_all (greatest_from (below o) y best i) items i (omega arith)))
      (subst (λ n. IsFirstBest (λ x y. below o y x) items n best) (let same : i ≡ length items = omega arith in same) kept)
  first_from (suc n) i best y e at kept =
      let x = get_or items i y in
      let more : i < length items = omega arith in
      let at_i : x ≡ get_or items i x = search (get_or_default) in
      let rest = drop (i + 1) items in
      subst (λ k. IsFirstBest (λ x y. below o y x) items (length items) k) (sym (at_drop_more (greatest_from (below o) y best i) items i y more))
      (elim (below o y x) as (λ (b : Bool). below o y x ≡ b → IsFirstBest (λ x y. below o y x) items (length items)
      (cond b (greatest_from (below o) x i (i + 1) rest) (greatest_from (below o) y best (i + 1) rest))) [
        | true ↦ λ t. first_from n (i + 1) i x (omega arith) at_i (IsFirstBest-takes ranked items i best x y kept more at_i at t)
        | false ↦ λ t. first_from n (i + 1) best y (omega arith) at (IsFirstBest-keeps ranked items i best x y kept more at_i at t)
      ] refl)

pub is_first : {X : Type 0} {R : X → X → Ordering} (o : IsTotalOrder R) (items : List X) → FirstGreatest (below o) items (first_greatest (below o) items)
is_first o [] = refl
is_first o (x ∷ xs) = first_from o (x ∷ xs) (length xs) 1 0 x (omega arith) refl (IsFirstBest-none (ranked o (x ∷ xs)) (x ∷ xs))

-- ---- the whole chain
module _ {X : Type 0} (lt : X → X → Bool) where
  -- an item with its place, as the chain hands it on
  abbrev pub seen : ℕ × Bor X → ℕ × X
  seen p = (p.0, p.1.now)

  abbrev pub better_seen : ℕ × Bor X → ℕ × Bor X → ℕ × Bor X
  better_seen best next = cond (lt best.1.now next.1.now) next best

  same : (x y : ℕ × Bor X) → seen (better_seen x y) ≡ better lt (seen x) (seen y)
  same x y = elim (lt x.1.now y.1.now) as (λ (b : Bool). ◌≡◌ {A = ℕ × X} (seen (cond b y x)) (cond b (seen y) (seen x))) [
    | true ↦ refl
    | false ↦ refl
  ]

  places : (r : Option (ℕ × Bor X)) → option_map (λ p. p.0) r ≡ option_map (λ p. p.0) (option_map seen r)
  places None = refl
  places (Some p) = refl

  pub found : {S F : Type 0} {steps : S → Option (ℕ × Bor X) → S → Type 0} {s : S} {g : Mut F ((ℕ × Bor X) × ((ℕ × Bor X) × Unit {0})) (ℕ × Bor X)} {f : F}
      (items : List X) (r : Option (ℕ × Bor X)) → ActsAsOnTwo g f better_seen → WholeRun steps s (λ p. MatchOption r (p.len ≡ 0) (IsReduceRun p g f)) →
      YieldsList steps seen s (enumerate_from 0 items) → option_map (λ p. p.0) r ≡ first_greatest lt items
  found items r acts run road =
      places r ∙ ap (option_map (λ p. p.0)) (seen_reduce seen better_seen (better lt) same r acts run road) ∙ place_of_best lt items
