use Rattle.std.proofs.Common.{arith}
use Rattle.std.proofs.lemmas.Bool.Decides.{nat_tests}
use Rattle.calendar.specs.Gregorian.{month_length}
use Rattle.calendar.proofs.Month.length.Goals as goal

pub returns-then-is_leap_year : goal.returns-then-is_leap_year
unfolding month_length
returns-then-is_leap_year c = record { value = grind (arith, nat_tests) }

pub returns-else-is_leap_year : goal.returns-else-is_leap_year
unfolding month_length
returns-else-is_leap_year c = record { value = grind (arith, nat_tests) }

pub returns-in-3 : goal.returns-in-3
unfolding month_length
returns-in-3 c = record { value = grind (arith, nat_tests) }

pub returns-in_default : goal.returns-in_default
unfolding month_length
returns-in_default c = record { value = grind (arith, nat_tests) }
