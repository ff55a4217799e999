-- What a board holds after fixings, of its meaning alone.
use Rattle.std.specs.Prelude.{ℕ, List, Some, None, Ok, Err, Option, Result}
use Rattle.std.specs.List.{fold}
use Rattle.refusals.specs.declared.Refusal.{Refusal}
use Rattle.prices.specs.Price.{PricesTold}
use Rattle.prices.specs.Board.{held_after}
use Rattle.fixings.specs.declared.Request.{Request}

-- the refusal that is due, or else the prices that the evidence gives
abbrev pub fixed_prices : Option Refusal → Option PricesTold → Result (Option PricesTold) Refusal
fixed_prices None judged = Ok judged
fixed_prices (Some refusal) judged = Err refusal

-- what a board holds after one fixing, by a rule that stays
abbrev pub fixed_more : {E : Type 0} → (ℕ → E → Option PricesTold) → (ℕ → ℕ → Option PricesTold) → Request E → ℕ → ℕ → Option PricesTold
fixed_more judged held request = held_after request.slot held (judged request.slot.shipper request.evidence)

-- one fixing after the other
abbrev pub held_through : {E : Type 0} → (ℕ → ℕ → Option PricesTold) → (ℕ → E → Option PricesTold) → List (Request E) → ℕ → ℕ → Option PricesTold
held_through held judged requests = fold (fixed_more judged) held requests
