-- A posting entered in one account of the row.
use Rattle.refusals.specs.Grounds.{refusal_at}
use Rattle.std.specs.Prelude.{ℕ, ◌-◌, cond, List, length, ℤ, Some, None, Ok, Err, Option, Result, ok_or, nat_lt, slice_index_or, slice_set}
use Rattle.std.specs.Option.{option_map}
use Rattle.refusals.specs.declared.Ground.{Ground}
use Rattle.refusals.specs.declared.Ground.TheVariants.{UnknownShipper, OutsidePeriod, TicketRepeated, AccountLimit}
use Rattle.refusals.specs.declared.Layer.TheVariants.{Book}
use Rattle.refusals.specs.declared.Refusal.{Refusal}
use Rattle.calendar.specs.declared.Month.{Month}
use Rattle.calendar.specs.Gregorian.{first_day, in_month}
use Rattle.sides.specs.declared.Side.{Side}
use Rattle.sides.specs.Days.{taken}
use Rattle.accounts.specs.declared.settled.Correction.{Correction}
use Rattle.accounts.specs.Told.{AccountTold}
use Rattle.accounts.specs.Accounts.{blank, day_booked, after_day, after_plan, corrected, after_correction}

abbrev pub month_number : Option Month → Option ℕ
month_number current = option_map (λ month. month.0) current

-- a day's place in the open month
abbrev pub place_in : Option ℕ → ℕ → Option ℕ
place_in None day = None
place_in (Some month) day = cond (in_month month day) (Some (day - first_day month)) None

abbrev pub place_or : Option ℕ → ℕ → Result ℕ Refusal
place_or current day = ok_or (place_in current day) (refusal_at OutsidePeriod Book day)

abbrev pub refused_by : {R : Type 0} → (ground : Ground) → ℕ → Result R Refusal
refused_by ground place = Err (refusal_at ground Book place)

-- ---- one account of the row

abbrev pub account_of : List AccountTold → ℕ → AccountTold
account_of accounts shipper = slice_index_or accounts shipper blank

-- what the shipper's account answers; a shipper that isn't in the row is refused
abbrev pub answer_of : {R : Type 0} → ℕ → List AccountTold → (AccountTold → Result R Refusal) → Result R Refusal
answer_of shipper accounts answer =
    cond (nat_lt shipper (length accounts)) (answer (account_of accounts shipper)) (refused_by UnknownShipper shipper)

-- the row with that account changed; a shipper that isn't in it changes nothing
abbrev pub change_of : ℕ → List AccountTold → (AccountTold → AccountTold) → List AccountTold
change_of shipper accounts change = slice_set accounts shipper (change (account_of accounts shipper))

-- ---- a day's gas

abbrev pub booked_or : ℕ → Option ℤ → Result ℤ Refusal
booked_or day None = refused_by TicketRepeated day
booked_or day (Some booked) = Ok booked

abbrev pub day_answer : ℕ → Option ℕ → Side → ℕ → ℕ → AccountTold → Result ℤ Refusal
day_answer standard None side day heat a = refused_by OutsidePeriod day
day_answer standard (Some place) side day heat a = booked_or day (day_booked standard side place heat a)

abbrev pub day_change : ℕ → Option ℕ → Side → ℕ → AccountTold → AccountTold
day_change standard None side heat a = a
day_change standard (Some place) side heat a = after_day standard side place heat a

abbrev pub day_entered : ℕ → Option ℕ → Side → ℕ → ℕ → ℕ → List AccountTold → Result ℤ Refusal
day_entered standard current side shipper day heat accounts =
    answer_of shipper accounts (day_answer standard (place_in current day) side day heat)

abbrev pub after_day_entered : ℕ → Option ℕ → Side → ℕ → ℕ → ℕ → List AccountTold → List AccountTold
after_day_entered standard current side shipper day heat accounts =
    change_of shipper accounts (day_change standard (place_in current day) side heat)

-- ---- a day's plan

abbrev pub plan_answer : Option ℕ → ℕ → ℕ → AccountTold → Result ℕ Refusal
plan_answer None day volume a = refused_by OutsidePeriod day
plan_answer (Some place) day volume a = cond (taken place a.planned) (refused_by TicketRepeated day) (Ok volume)

abbrev pub plan_change : Option ℕ → ℕ → AccountTold → AccountTold
plan_change None volume a = a
plan_change (Some place) volume a = after_plan place volume a

abbrev pub plan_entered : Option ℕ → ℕ → ℕ → ℕ → List AccountTold → Result ℕ Refusal
plan_entered current shipper day volume accounts = answer_of shipper accounts (plan_answer (place_in current day) day volume)

abbrev pub after_plan_entered : Option ℕ → ℕ → ℕ → ℕ → List AccountTold → List AccountTold
after_plan_entered current shipper day volume accounts = change_of shipper accounts (plan_change (place_in current day) volume)

-- ---- a correction

abbrev pub corrected_or : ℕ → Option Correction → Result Correction Refusal
corrected_or shipper None = refused_by AccountLimit shipper
corrected_or shipper (Some correction) = Ok correction

abbrev pub correction_entered : ℕ → Side → ℕ → ℤ → ℕ → List AccountTold → Result Correction Refusal
correction_entered standard side shipper heat price accounts =
    answer_of shipper accounts (λ a. corrected_or shipper (corrected standard side heat price a))

abbrev pub after_correction_entered : ℕ → Side → ℕ → ℤ → ℕ → List AccountTold → List AccountTold
after_correction_entered standard side shipper heat price accounts =
    change_of shipper accounts (after_correction standard side heat price)
