-- What is left of the row, placed now, gives the buffer that the whole row gives.
use Rattle.std.proofs.Common.{◌≡◌, ◌+◌, length, drop}
use Rattle.text.specs.Rows.{row_text, placed}
use Rattle.text.proofs.put_row.Given as goal

abbrev pub invariant-loop-i : goal.invariant-loop-i
invariant-loop-i l =
    (l.place + length (row_text (drop l.i l.figures)) ≡ l.at + length (row_text l.figures))
    × (placed l.place (row_text (drop l.i l.figures)) l.buffer ≡ placed l.at (row_text l.figures) l.initial.buffer)
