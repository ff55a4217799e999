-- A list of fixings: its loop, and that a pair which was held stays as it was.
use Rattle.std.proofs.Common.{◌≡◌, ℕ, ◌+◌, ◌<◌, Bool, true, false, cond, ◌&&◌, eqb, ltb, List, [], ◌∷◌, length, get_or, take, is_some, Some, None, Option, sym, refl, ap, ◌∙◌, true≢false, eqb-true}
use Rattle.std.proofs.lemmas.List.Sums.{fold_more}
use Rattle.refusals.specs.declared.Refusal.{Refusal}
use Rattle.prices.specs.Price.{PricesTold}
use Rattle.prices.specs.declared.slot.Slot.{Slot}
use Rattle.prices.specs.Board.{fix_bar, unless_barred, held_after}
use Rattle.fixings.specs.Fixings.{fixed_more, held_through}
use Rattle.fixings.specs.declared.Request.{Request}

-- ---- the loop: what is held now is what the requests so far make of what was held first
module _ {E : Type 0} (held₀ : ℕ → ℕ → Option PricesTold) (judged₀ : ℕ → E → Option PricesTold) (requests : List (Request E)) where
  pub record Kept (held : ℕ → ℕ → Option PricesTold) (judged : ℕ → E → Option PricesTold) (i : ℕ) : Type 0 where
    pub through : held ≡ held_through held₀ judged₀ (take i requests)
    pub rule : (s : ℕ) (e : E) → judged s e ≡ judged₀ s e

  pub kept_more : (held held' : ℕ → ℕ → Option PricesTold) (judged judged' : ℕ → E → Option PricesTold) (i : ℕ) (request : Request E) →
      Kept held judged i → i < length requests → request ≡ get_or requests i request →
      ((s p : ℕ) → held' s p ≡ fixed_more judged held request s p) → ((s : ℕ) (e : E) → judged' s e ≡ judged s e) → Kept held' judged' (i + 1)
  kept_more held held' judged judged' i request kept h is after same =
      let here : held' ≡ fixed_more judged₀ held request =
      λ j s p. (after s p ∙ ap (λ o. held_after request.slot held o s p) (kept.rule request.slot.shipper request.evidence)) j in
      record {
        through = here ∙ ap (λ hd. fixed_more judged₀ hd request) kept.through
            ∙ ap (fixed_more judged₀ (held_through held₀ judged₀ (take i requests))) is
            ∙ sym (fold_more (fixed_more judged₀) held₀ requests i request h);
        rule = λ s e. same s e ∙ kept.rule s e;
      }

-- ---- the law
barred : (a b : Bool) (first second third : Refusal) (judged held : Option PricesTold) →
    unless_barred (cond a (Some first) (cond b (Some second) (Some third))) judged held ≡ held
barred true b first second third judged held = refl
barred false true first second third judged held = refl
barred false false first second third judged held = refl

held_bars : (slot : Slot) (held judged : Option PricesTold) → is_some held ≡ true →
    unless_barred (fix_bar slot held judged) judged held ≡ held
held_bars slot None judged some = absurd (true≢false (sym some))
held_bars slot (Some prices) judged some = barred (ltb 15 slot.shipper) (ltb 11 slot.place) _ _ _ judged (Some prices)

at_pair : (slot : Slot) (held : ℕ → ℕ → Option PricesTold) (judged : Option PricesTold) (s p : ℕ) (a b : Bool) →
    eqb s slot.shipper ≡ a → eqb p slot.place ≡ b → is_some (held s p) ≡ true →
    cond (a && b) (unless_barred (fix_bar slot (held slot.shipper slot.place) judged) judged (held s p)) (held s p) ≡ held s p
at_pair slot held judged s p false b e f some = refl
at_pair slot held judged s p true false e f some = refl
at_pair slot held judged s p true true e f some =
    let same : held slot.shipper slot.place ≡ held s p = λ i. held (sym (eqb-true s slot.shipper e) i) (sym (eqb-true p slot.place f) i) in
    ap (λ o. unless_barred (fix_bar slot o judged) judged (held s p)) same ∙ held_bars slot (held s p) judged some

stays : (slot : Slot) (held : ℕ → ℕ → Option PricesTold) (judged : Option PricesTold) (s p : ℕ) →
    is_some (held s p) ≡ true → held_after slot held judged s p ≡ held s p
stays slot held judged s p some = at_pair slot held judged s p (eqb s slot.shipper) (eqb p slot.place) refl refl some

pub stays_through : {E : Type 0} (held : ℕ → ℕ → Option PricesTold) (judged : ℕ → E → Option PricesTold) (requests : List (Request E)) (s p : ℕ) →
    is_some (held s p) ≡ true → held_through held judged requests s p ≡ held s p
stays_through held judged [] s p some = refl
stays_through held judged (request ∷ requests) s p some =
    let one = stays request.slot held (judged request.slot.shipper request.evidence) s p some in
    stays_through (held_after request.slot held (judged request.slot.shipper request.evidence)) judged requests s p
    (ap is_some one ∙ some) ∙ one
