-- A ticket that was read has passed both tests at each of its words.
use Rattle.std.proofs.Common.{◌≡◌, ℕ, zero, suc, ◌+◌, ◌<◌, ◌≤◌, Bool, true, false, cond, not, List, [], ◌∷◌, length, get_or, take, drop, Some, None, Option, sym, refl, ap, ◌∙◌, subst, add-zero, zero-add, arith, length-drop, length-take, get_or-drop, get_or-take}
use Rattle.std.proofs.lemmas.Bool.Decides.{nat_tests}
use Rattle.tickets.specs.Words.{kind_of, field_of}
use Rattle.tickets.specs.Reader.{first_not, shaped, allowed, SoundHours}
use Rattle.tickets.specs.declared.kind.TicketKind.TheVariants.{Receipts}
use Rattle.std.specs.List.{position_from, enumerate_from}

-- where no word fails, each passes
first_passes : (b : Bool) (others : Option ℕ) (i : ℕ) → cond (not b) (Some i) others ≡ None → (b ≡ true) × (others ≡ None)
first_passes true others i e = (refl, e)
first_passes false others i e = cc

passed_from : (passes : ℕ → ℕ → Bool) (i : ℕ) (words : List ℕ) →
    position_from (λ place. not (passes place.0 place.1)) i (enumerate_from i words) ≡ None →
    (k : ℕ) → k < length words → passes (i + k) (get_or words k 0) ≡ true
passed_from passes i [] e k h = absurd (omega arith)
passed_from passes i (word ∷ words) e zero h = ap (λ n. passes n word) (add-zero i) ∙ (first_passes (passes i word) _ i e).0
passed_from passes i (word ∷ words) e (suc k) h =
    let same : i + suc k ≡ i + 1 + k = omega arith in
    ap (λ n. passes n (get_or words k 0)) same
    ∙ passed_from passes (i + 1) words (first_passes (passes i word) _ i e).1 k (omega arith)

passed : (passes : ℕ → ℕ → Bool) (words : List ℕ) → first_not passes words ≡ None →
    (k : ℕ) → k < length words → passes k (get_or words k 0) ≡ true
passed passes words e k h = ap (λ n. passes n (get_or words k 0)) (sym (zero-add k)) ∙ passed_from passes 0 words e k h

hour_at : (words : List ℕ) (k : ℕ) → k < 24 → get_or (take 24 (drop 2 words)) k 0 ≡ get_or words (2 + k) 0
hour_at words k h = get_or-take 24 (drop 2 words) k 0 h ∙ get_or-drop 2 words k 0

pub sound_hours : (words : List ℕ) → length words ≡ 26 → first_not (shaped Receipts) words ≡ None →
    first_not (allowed Receipts) words ≡ None → SoundHours (take 24 (drop 2 words))
sound_hours words whole shapes limits =
    let hour : (k : ℕ) → k < 24 → (kind_of (get_or words (2 + k) 0) ≡ 9) × (field_of (get_or words (2 + k) 0) ≤ 1000000) =
    λ k h.
    let within : 2 + k < length words = omega arith in
    let shape = passed (shaped Receipts) words shapes (2 + k) within in
    let limit = passed (allowed Receipts) words limits (2 + k) within in
    (grind (arith, nat_tests), grind (arith, nat_tests)) in
    record {
      count = simp (length-take, length-drop) (omega arith);
      kinds = λ k h. ap kind_of (hour_at words k h) ∙ (hour k h).0;
      limits = λ k h. subst (λ (w : ℕ). field_of w ≤ 1000000) (sym (hour_at words k h)) (hour k h).1;
    }
