-- A row of sixteen items, of which the first are told and the rest are spare.
use Rattle.std.proofs.Common.{◌≡◌, ℕ, suc, ◌+◌, ◌-◌, ◌<◌, ◌≤◌, List, [], ◌∷◌, ◌++◌, length, take, set, replicate, sym, ap, ◌∙◌, arith, length-take, length-take-le, length-set, append_assoc, length-append}
use Rattle.std.proofs.lemmas.List.{length-replicate, set-append_left, length_push, take_more_set}
use Rattle.std.proofs.Math.Seq.{set-append_seam, take-append_seam, take-set-lt}
use Rattle.rolls.specs.Fields.{told, padded, Sound}
use Rattle.rolls.specs.declared.roll.Roll.TheInside.{Inside}

module _ {A : Type 0} (spare : A) where
  pub filled_long : (done : List A) → length done ≤ 16 → length (padded spare done) ≡ 16
  filled_long done few =
      omega (arith, few, length-append done (replicate (16 - length done) spare), length-replicate (16 - length done) spare)

  pub filled_told : (done : List A) (n : ℕ) → length done ≡ n → take n (padded spare done) ≡ done
  filled_told done n long =
      ap (λ m. take m (padded spare done)) (sym long) ∙ take-append_seam done (replicate (16 - length done) spare)

  -- the next item in its place
  pub filled_more : (done : List A) (next : A) → length done < 16 →
      set (padded spare done) (length done) next ≡ padded spare (done ++ next ∷ [])
  filled_more done next lt =
      let left : 16 - length done ≡ suc (16 - length (done ++ next ∷ [])) = omega (arith, lt, length_push done next) in
      ap (λ n. set (done ++ replicate n spare) (length done) next) left
      ∙ set-append_seam done spare (replicate (16 - length (done ++ next ∷ [])) spare) next
      ∙ sym (append_assoc done (next ∷ []) (replicate (16 - length (done ++ next ∷ [])) spare))

  -- ---- a row whose first n items are told
  module _ (n : ℕ) (items : List A) (few : n ≤ 16) (rest : padded spare (take n items) ≡ items) where
    pub row_long : length items ≡ 16
    row_long = ap length (sym rest) ∙ filled_long (take n items) (omega (arith, few, length-take n items))

    pub told_long : length (take n items) ≡ n
    told_long = length-take-le n items (omega (arith, few, row_long))

    -- the next item in its place
    pub told_more : n < 16 → (item : A) → take (n + 1) (set items n item) ≡ take n items ++ item ∷ []
    told_more lt item = take_more_set items n item (omega (arith, lt, row_long))

    pub rest_more : n < 16 → (item : A) → padded spare (take (n + 1) (set items n item)) ≡ set items n item
    rest_more lt item =
        let done = take n items in
        ap (padded spare) (told_more lt item)
        ∙ sym (filled_more done item (omega (arith, lt, told_long)))
        ∙ ap (λ m. set (padded spare done) m item) told_long
        ∙ ap (λ row. set row n item) rest

    -- another item in a told place
    module _ (i : ℕ) (item : A) (lt : i < n) where
      pub told_set : take n (set items i item) ≡ set (take n items) i item
      told_set = take-set-lt n items i item lt

      pub rest_set : padded spare (take n (set items i item)) ≡ set items i item
      rest_set =
          let done = take n items in
          ap (padded spare) told_set
          ∙ ap (λ m. set done i item ++ replicate (16 - m) spare) (length-set done i item)
          ∙ sym (set-append_left done (replicate (16 - length done) spare) i item (omega (arith, lt, told_long)))
          ∙ ap (λ row. set row i item) rest

  -- ---- a sound row with another item in a told place
  module _ (roll : Inside A) (sound : Sound spare roll) (i : ℕ) (item : A) (lt : i < roll.count) where
    pub told_again : take roll.count (set roll.accounts i item) ≡ set (told roll) i item
    told_again = told_set roll.count roll.accounts sound.few.1 sound.rest i item lt

    pub sound_again : Sound spare (record roll { accounts = set roll.accounts i item })
    sound_again = record {
      few = sound.few;
      long = ap length told_again ∙ length-set (told roll) i item ∙ sound.long;
      rest = rest_set roll.count roll.accounts sound.few.1 sound.rest i item lt;
    }
