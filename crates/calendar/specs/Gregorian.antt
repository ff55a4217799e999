-- The Gregorian calendar from January 2000 on: month 0 is January 2000, and day 0 its first day.
use Rattle.std.specs.Prelude.{ℕ, zero, suc, ◌+◌, ◌/◌, ◌%◌, Bool, false, cond, not, ◌&&◌, ◌||◌, Some, None, Option, ◌==◌, nat_le, nat_lt}
use Rattle.calendar.specs.declared.Day.{Day}

-- divisible by 4, and of the centuries those divisible by 400
abbrev pub leap : ℕ → Bool
leap year = year % 4 == 0 && (not (year % 100 == 0) || year % 400 == 0)

-- months of a year count from 0: February is 1; April, June, September and November are 3, 5, 8 and 10
abbrev pub length_in : ℕ → ℕ → ℕ
length_in year month =
    cond (month == 1) (cond (leap year) 29 28)
    (cond (month == 3 || month == 5 || month == 8 || month == 10) 30 31)

unfoldable pub month_length : ℕ → ℕ
month_length month = length_in (2000 + month / 12) (month % 12)

unfoldable pub first_day : ℕ → ℕ
first_day zero = 0
first_day (suc month) = first_day month + month_length month

-- the table knows the months below this one, and the day on which it begins
abbrev pub table_months : ℕ
table_months = 1200

abbrev pub first_day_told : ℕ → Option Day
first_day_told month = cond (nat_le month table_months) (Some (record { 0 = first_day month })) None

abbrev pub in_month : ℕ → ℕ → Bool
in_month month day =
    cond (nat_lt month table_months) (nat_le (first_day month) day && nat_lt day (first_day month + month_length month)) false
