use Rattle.std.proofs.Common.{◌≡◌, ◌≤◌, take, drop}
use Rattle.rolls.specs.Fields.{filled}
use Rattle.drawings.specs.Drawing.{each, issued_at, issued_roll}
use Rattle.drawings.proofs.Eaches.{after}
use Rattle.drawings.proofs.issuing.issued_roll.Given as goal

-- the accounts so far, before what the rest gives, are the whole
abbrev pub invariant-loop-i : goal.invariant-loop-i
invariant-loop-i l = record {
  few : l.i ≤ 16;
  rest : filled (take l.i l.accounts) ≡ l.accounts;
  whole : after (take l.i l.accounts) (each (issued_at l.lines) l.i (drop l.i l.account-items)) ≡ issued_roll l.lines l.roll;
}
