-- The opening, and what a row of accounts tells.
use Rattle.refusals.specs.Grounds.{refusal_at}
use Rattle.std.specs.Prelude.{ℕ, ◌+◌, Bool, cond, not, ◌&&◌, ◌||◌, List, map, length, position, Some, None, Ok, Err, Option, Result, ◌==◌, nat_le, nat_lt}
use Rattle.refusals.specs.declared.Ground.TheVariants.{FigureLimits}
use Rattle.refusals.specs.declared.Layer.TheVariants.{Book}
use Rattle.refusals.specs.declared.Refusal.{Refusal}
use Rattle.accounts.specs.Told.{AccountTold}
use Rattle.accounts.specs.Accounts.{carry_allowed, opened, all_in}
use Rattle.rolls.specs.declared.opening.Carries.{Carries}
use Rattle.rolls.specs.Terms.{TermsTold}

-- ---- the opening

abbrev pub outside : {X : Type 0} → ℕ → Result X Refusal
outside place = Err (refusal_at FigureLimits Book place)

-- the month, the heat and the tax, each within its limits
abbrev pub terms_of : ℕ → ℕ → ℕ → Result TermsTold Refusal
terms_of month heat tax =
    cond (nat_lt 1188 month) (outside 0)
    (cond (nat_le 4000 heat && nat_le heat 5000)
    (cond (nat_lt 100 tax) (outside 2) (Ok (record { first = month; standard = heat; tax = tax })))
    (outside 1))

abbrev pub carries_allowed : Carries → Bool
carries_allowed carries = carry_allowed carries.older && carry_allowed carries.newer

abbrev pub carries_outside : Carries → Bool
carries_outside carries = not (carries_allowed carries)

abbrev pub opened_account : Carries → AccountTold
opened_account carries = opened carries.older carries.newer

abbrev pub opened_unless : Option ℕ → List Carries → Result (List AccountTold) Refusal
opened_unless None carries = Ok (map opened_account carries)
opened_unless (Some shipper) carries = outside (4 + shipper)

-- 1 to 16 shippers, and the carry-overs of each within their limits
abbrev pub opened_roll : List Carries → Result (List AccountTold) Refusal
opened_roll carries =
    cond (length carries == 0 || nat_lt 16 (length carries)) (outside 3)
    (opened_unless (position carries_outside carries) carries)

-- ---- a month's tickets

-- the lowest shipper that lacks a day's ticket
abbrev pub lacking : ℕ → List AccountTold → Option ℕ
lacking days accounts = position (λ account. not (all_in days account)) accounts
