use Rattle.std.proofs.Common.{◌≡◌, take}
use Rattle.statement.specs.Statement.{figures_of, rates_of}
use Rattle.statement.proofs.month.Month.statement.Given as goal

abbrev pub invariant-loop-entry : goal.invariant-loop-entry
invariant-loop-entry l =
    (l.figures.items ≡ figures_of (take l.entry-index l.entries))
    × (l.rates.items ≡ rates_of (take l.entry-index l.entries))
