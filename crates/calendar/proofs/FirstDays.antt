-- A table that is made by the rule has the rule's first day at each entry.
use Rattle.std.proofs.Common.{◌≡◌, ℕ, zero, suc, ◌+◌, ◌<◌, List, [], ◌∷◌, get_or, sym, ap, ◌∙◌, add-zero, add-suc, suc-add, zero-add, arith}
use Rattle.calendar.specs.Gregorian.{month_length, first_day}

abbrev pub made : ℕ → ℕ → ℕ → List ℕ
made zero month start = []
made (suc n) month start = start ∷ made n (suc month) (start + month_length month)

made_from : (n month k : ℕ) → k < n → get_or (made n month (first_day month)) k 0 ≡ first_day (month + k)
unfolding first_day
made_from zero month k h = absurd (omega arith)
made_from (suc n) month zero h = ap first_day (sym (add-zero month))
made_from (suc n) month (suc k) h =
    let less : k < n = omega arith in
    made_from n (suc month) k less ∙ ap first_day (suc-add month k ∙ sym (add-suc month k))

pub table_rule : (n k : ℕ) → k < n → get_or (made n 0 0) k 0 ≡ first_day k
unfolding first_day
table_rule n k h = made_from n 0 k h ∙ ap first_day (zero-add k)
