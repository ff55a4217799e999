-- A row of more figures than bytes has no room.
use Rattle.std.proofs.Common.{arith}
use Rattle.std.proofs.lemmas.Bool.Decides.{nat_tests}
use Rattle.text.proofs.Steps.{row_long}
use Rattle.text.proofs.has_room.Goals as goal

pub returns-else-figures-room : goal.returns-else-figures-room
returns-else-figures-room c = let long = row_long c.args.figures.now in record { value = grind (arith, nat_tests) }
