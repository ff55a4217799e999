use Rattle.std.proofs.Common.{◌≡◌, take, drop}
use Rattle.statement.proofs.drawing.Statement.write.Given as goal

-- the lines so far are on the sheet, which from here on is as it was
abbrev pub invariant-loop-i : goal.invariant-loop-i
invariant-loop-i l = (take l.i l.sheet ≡ take l.i l.self) × (drop l.i l.sheet ≡ drop l.i l.initial.sheet)
