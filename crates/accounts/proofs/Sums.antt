-- Sums within their limits, and what a correction or a line makes of an account then.
use Rattle.std.proofs.Common.{◌≡◌, ℕ, ◌^◌, Bool, true, false, cond, ◌||◌, ℤ, ◌+ℤ◌, Some, None, sym, refl, ap, ◌∙◌, arith}
use Rattle.accounts.specs.Told.{AccountTold}
use Rattle.accounts.specs.Accounts.{passes, sum_if, over_by, with_sums, settling, settled_if, correction_of, with_correction, corrected, after_correction, with_line, issued_if}
use Rattle.accounts.specs.declared.settled.Correction.{Correction}
use Rattle.sides.specs.declared.Side.{Side}
use Rattle.statement.specs.declared.line.Line.{Line}

pub record Fits (most : ℕ) (a b sum : ℤ) : Type 0 where
  pub fits : passes most (a +ℤ b) ≡ false
  pub is : sum ≡ a +ℤ b

chosen : {T : Type 0} (over : Bool) (z sum : T) → Some sum ≡ cond over None (Some z) → (over ≡ false) × (sum ≡ z)
chosen true z sum e = absurd (let no : ◌≡◌ {A = ℕ} 0 1 = cc in omega (arith, no))
chosen false z sum e = (refl, cc)

pub sum_fits : (most : ℕ) (a b sum : ℤ) → Some sum ≡ sum_if most a b → Fits most a b sum
sum_fits most a b sum e =
    let found = chosen (passes most (a +ℤ b)) (a +ℤ b) sum e in record { fits = found.0; is = found.1 }

pub either_false : (p q : Bool) → p ≡ false → q ≡ false → (p || q) ≡ false
either_false p q e f = (λ j. e j || f j)

pub settled_is : (volume yen : ℤ) (a : AccountTold) (s y : ℤ) → Some s ≡ sum_if (10 ^ 12) a.settled volume →
    Some y ≡ sum_if (10 ^ 15) a.yen yen → Some (with_sums s y a) ≡ settled_if volume yen a
settled_is volume yen a s y se ye =
    let sf = sum_fits (10 ^ 12) a.settled volume s se in
    let yf = sum_fits (10 ^ 15) a.yen yen y ye in
    let fits = either_false (passes (10 ^ 12) (a.settled +ℤ volume)) (passes (10 ^ 15) (a.yen +ℤ yen)) sf.fits yf.fits in
    (λ j. Some (with_sums (sf.is j) (yf.is j) a)) ∙ ap (λ b. cond b None (Some (settling volume yen a))) (sym fits)

-- an account that took up a volume and yen, or did not

pub record Settled (volume yen : ℤ) (a b : AccountTold) : Type 0 where
  pub fits : over_by volume yen a ≡ false
  pub is : b ≡ settling volume yen a

pub settled_some : (volume yen : ℤ) (a b : AccountTold) → Some b ≡ settled_if volume yen a → Settled volume yen a b
settled_some volume yen a b e =
    let found = chosen (over_by volume yen a) (settling volume yen a) b e in record { fits = found.0; is = found.1 }

over_of : (over : Bool) (z : AccountTold) → None ≡ cond over None (Some z) → over ≡ true
over_of true z e = refl
over_of false z e = absurd (let no : ◌≡◌ {A = ℕ} 0 1 = cc in omega (arith, no))

pub settled_none : (volume yen : ℤ) (a : AccountTold) → None ≡ settled_if volume yen a → over_by volume yen a ≡ true
settled_none volume yen a e = over_of (over_by volume yen a) (settling volume yen a) e

module _ (standard : ℕ) (side : Side) (heat : ℤ) (price : ℕ) (a : AccountTold) where
  abbrev due : Correction
  due = correction_of standard side heat price a

  module _ (correction : Correction) (is : correction ≡ due) where
    over_is : over_by correction.volume correction.yen a ≡ over_by due.volume due.yen a
    over_is = (λ j. over_by (is j).volume (is j).yen a)

    pub corrected_is : over_by correction.volume correction.yen a ≡ false → Some correction ≡ corrected standard side heat price a
    corrected_is fits = ap Some is ∙ ap (λ b. cond b None (Some due)) (sym fits ∙ over_is)

    pub after_is : over_by correction.volume correction.yen a ≡ false →
        with_correction standard side heat correction a ≡ after_correction standard side heat price a
    after_is fits = (λ j. with_correction standard side heat (is j) a)
        ∙ ap (λ b. cond b a (with_correction standard side heat due a)) (sym fits ∙ over_is)

    pub none_corrected : over_by correction.volume correction.yen a ≡ true → None ≡ corrected standard side heat price a
    none_corrected over = ap (λ b. cond b None (Some due)) (sym over ∙ over_is)

    pub after_none : over_by correction.volume correction.yen a ≡ true → a ≡ after_correction standard side heat price a
    after_none over = ap (λ b. cond b a (with_correction standard side heat due a)) (sym over ∙ over_is)

pub issued_is : (line : Line) (a : AccountTold) → over_by line.settled line.yen a ≡ false → Some (with_line line a) ≡ issued_if line a
issued_is line a fits = ap (λ b. cond b None (Some (with_line line a))) (sym fits)
