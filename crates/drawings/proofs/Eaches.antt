-- One answer for each item, item by item: what is done, before what the rest gives, is the whole.
use Rattle.std.proofs.Common.{◌≡◌, ℕ, suc, ◌+◌, ◌<◌, ◌≤◌, List, [], ◌∷◌, ◌++◌, length, get_or, drop, Ok, Err, Result, sym, refl, ap, ◌∙◌, append_assoc, arith}
use Rattle.std.proofs.lemmas.List.{at_drop_more, at_drop_all, append-nil}
use Rattle.refusals.specs.declared.Refusal.{Refusal}
use Rattle.drawings.specs.Drawing.{before, each}

module _ {Y : Type 0} where
  abbrev pub after : List Y → Result (List Y) Refusal → Result (List Y) Refusal
  after done (Ok rest) = Ok (done ++ rest)
  after done (Err refusal) = Err refusal

  after_one : (done : List Y) (y : Y) (rest : Result (List Y) Refusal) → after (done ++ y ∷ []) rest ≡ after done (before (Ok y) rest)
  after_one done y (Ok rest) = ap Ok (append_assoc done (y ∷ []) rest)
  after_one done y (Err refusal) = refl

  pub begun : (whole : Result (List Y) Refusal) → after [] whole ≡ whole
  begun (Ok rest) = refl
  begun (Err refusal) = refl

module _ {X Y : Type 0} (answer : ℕ → X → Result Y Refusal) (xs : List X) (i : ℕ) (done : List Y) where
  abbrev pub rest : ℕ → Result (List Y) Refusal
  rest n = each answer n (drop n xs)

  step : (d : X) (told : Result Y Refusal) → told ≡ answer i (get_or xs i d) → i < length xs → rest i ≡ before told (rest (i + 1))
  step d told e h = at_drop_more (each answer i) xs i d h ∙ ap (λ o. before o (rest (i + 1))) (sym e)

  pub goes_on : (d : X) (y : Y) → Ok y ≡ answer i (get_or xs i d) → i < length xs → after (done ++ y ∷ []) (rest (i + 1)) ≡ after done (rest i)
  goes_on d y e h = after_one done y (rest (i + 1)) ∙ ap (after done) (sym (step d (Ok y) e h))

  pub stops : (d : X) (refusal : Refusal) → Err refusal ≡ answer i (get_or xs i d) → i < length xs → Err refusal ≡ after done (rest i)
  stops d refusal e h = ap (after done) (sym (step d (Err refusal) e h))

  pub ends : length xs ≤ i → Ok done ≡ after done (rest i)
  ends h = ap Ok (sym (append-nil done)) ∙ ap (after done) (sym (at_drop_all (each answer i) xs i h))

-- ---- as many answers as items
before_long : {Y : Type 0} (one : Result Y Refusal) (rest : Result (List Y) Refusal) (n : ℕ) →
    ((ys : List Y) → Ok ys ≡ rest → length ys ≡ n) → (ys : List Y) → Ok ys ≡ before one rest → length ys ≡ suc n
before_long (Ok y) (Ok rest) n h ys e = let same : ys ≡ y ∷ rest = cc in ap length same ∙ ap suc (h rest refl)
before_long (Ok y) (Err refusal) n h ys e = absurd (let no : ◌≡◌ {A = ℕ} 0 1 = cc in omega (arith, no))
before_long (Err refusal) rest n h ys e = absurd (let no : ◌≡◌ {A = ℕ} 0 1 = cc in omega (arith, no))

pub each_long : {X Y : Type 0} (answer : ℕ → X → Result Y Refusal) (n : ℕ) (xs : List X) (ys : List Y) → Ok ys ≡ each answer n xs →
    length ys ≡ length xs
each_long answer n [] ys e = let none : ys ≡ [] = cc in ap length none
each_long answer n (x ∷ xs) ys e = before_long (answer n x) (each answer (n + 1) xs) (length xs) (each_long answer (n + 1) xs) ys e
