-- A row of accounts as it is opened, and where it is told.
use Rattle.std.proofs.Common.{◌≡◌, ℕ, ◌+◌, ◌<◌, ◌≤◌, Bool, true, false, cond, not, ◌||◌, eqb, ltb, List, map, length, get_or, Some, None, Ok, Option, sym, refl, ap, ◌∙◌, arith, le-ltb, lt-ltb}
use Rattle.std.specs.List.{AllWithin, position, position_or_len}
use Rattle.std.proofs.lemmas.List.Sums.{position_or_len_is}
use Rattle.accounts.specs.Told.{AccountTold}
use Rattle.accounts.specs.Accounts.{opened_if}
use Rattle.rolls.specs.Rolls.{outside, carries_allowed, carries_outside, opened_account, opened_unless, opened_roll}
use Rattle.rolls.specs.declared.opening.Carries.{Carries}

-- ---- one shipper

pub record Opened (x : Carries) (t : AccountTold) : Type 0 where
  pub allowed : carries_outside x ≡ false
  pub is : t ≡ opened_account x

chosen : (b : Bool) (t u : AccountTold) → Some t ≡ cond b (Some u) None → (not b ≡ false) × (t ≡ u)
chosen true t u e = (refl, cc)
chosen false t u e = absurd (let no : ◌≡◌ {A = ℕ} 0 1 = cc in omega (arith, no))

pub opened_is : (x : Carries) (t : AccountTold) → Some t ≡ opened_if x.older x.newer → Opened x t
opened_is x t e = let found = chosen (carries_allowed x) t (opened_account x) e in record { allowed = found.0; is = found.1 }

refused_is : (b : Bool) (u : AccountTold) → None ≡ cond b (Some u) None → not b ≡ true
refused_is true u e = absurd (let no : ◌≡◌ {A = ℕ} 0 1 = cc in omega (arith, no))
refused_is false u e = refl

pub not_opened : (x : Carries) → None ≡ opened_if x.older x.newer → carries_outside x ≡ true
not_opened x e = refused_is (carries_allowed x) (opened_account x) e

-- ---- all of them

module _ (carries : List Carries) (size : (eqb (length carries) 0 || ltb 16 (length carries)) ≡ false)
    (i : ℕ) (d : Carries) (before : AllWithin (λ x. carries_outside x ≡ false) carries 0 i) where
  whole : (found : Option ℕ) → position carries_outside carries ≡ found → opened_unless found carries ≡ opened_roll carries
  whole found e =
      ap (λ o. opened_unless o carries) (sym e)
      ∙ ap (λ b. cond b (outside 3) (opened_unless (position carries_outside carries) carries)) (sym size)

  first : i ≤ length carries → (i < length carries → carries_outside (get_or carries i d) ≡ true) → position_or_len carries_outside carries ≡ i
  first h here = position_or_len_is carries_outside carries i d h (λ k l. before k d (omega arith) l) here

  at : (n : ℕ) → position_or_len carries_outside carries ≡ n → position carries_outside carries ≡ cond (ltb n (length carries)) (Some n) None
  at n e = ap (λ m. cond (ltb m (length carries)) (Some m) None) e

  pub stopped_at : i < length carries → carries_outside (get_or carries i d) ≡ true → outside (4 + i) ≡ opened_roll carries
  stopped_at h here = whole (Some i)
      (at i (first (omega (arith, h)) (λ _. here)) ∙ ap (λ (b : Bool). cond b (Some i) None) (lt-ltb i (length carries) h))

  pub all_opened : length carries ≡ i → (accounts : List AccountTold) → accounts ≡ map opened_account carries → Ok accounts ≡ opened_roll carries
  all_opened end accounts same = ap Ok same ∙ whole None
      (at i (first (omega (arith, end)) (λ h. absurd (omega (arith, h, end))))
      ∙ ap (λ (b : Bool). cond b (Some i) None) (le-ltb i (length carries) (omega (arith, end))))
