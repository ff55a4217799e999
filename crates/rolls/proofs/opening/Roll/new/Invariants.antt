use Rattle.std.proofs.Common.{◌≡◌, false, map, take}
use Rattle.std.specs.List.{AllWithin}
use Rattle.rolls.specs.Fields.{filled}
use Rattle.rolls.specs.Rolls.{carries_outside, opened_account}
use Rattle.rolls.proofs.opening.Roll.new.Given as goal

-- the accounts so far are opened, and the carry-overs of none of them failed
abbrev pub invariant-loop-i : goal.invariant-loop-i
invariant-loop-i l = record {
  opened : l.accounts ≡ filled (map opened_account (take l.i l.carries));
  allowed : AllWithin (λ x. carries_outside x ≡ false) l.carries 0 l.i;
}
