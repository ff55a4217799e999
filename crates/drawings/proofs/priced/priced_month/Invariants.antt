use Rattle.std.proofs.Common.{◌≡◌, length, drop}
use Rattle.drawings.specs.Drawing.{each, priced_at, priced_month}
use Rattle.drawings.proofs.Eaches.{after}
use Rattle.drawings.proofs.priced.priced_month.Given as goal

-- the entries so far, before what the rest gives, are the whole
abbrev pub invariant-loop-i : goal.invariant-loop-i
invariant-loop-i g l = record {
  long : length l.month ≡ l.i;
  whole : after l.month (each (priced_at (g.B.Asking.held l.board) l.place) l.i (drop l.i l.account-items))
      ≡ priced_month (g.B.Asking.held l.board) l.place l.roll;
}
