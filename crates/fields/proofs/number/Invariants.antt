use Rattle.std.proofs.Common.{◌≡◌, ◌≤◌, drop, Some}
use Rattle.fields.specs.Numbers.{digits_from}
use Rattle.fields.proofs.number.Given as goal

abbrev pub invariant-loop-byte : goal.invariant-loop-byte
invariant-loop-byte l =
    (digits_from l.base l.most (Some l.number) (drop l.byte-index l.field) ≡ digits_from l.base l.most (Some 0) l.field)
    × (l.number ≤ l.most)
