-- The table is compared, entry by entry, with the one that the rule makes.
use Rattle.std.proofs.Common.{arith}
use Rattle.calendar.specs.Gregorian.{month_length}
use Rattle.calendar.proofs.FirstDays.{table_rule}
use Rattle.calendar.proofs.entry.Goals as goal

pub returns : goal.returns
unfolding month_length
returns c = record { value = table_rule 1201 c.args.month (omega (arith, c.requires)) }
