use Rattle.fixings.proofs.Through.{Kept}
use Rattle.fixings.proofs.fix_all.Given as goal

abbrev pub invariant-loop-request : goal.invariant-loop-request
invariant-loop-request g l =
    Kept (g.B.Asking.held l.initial.board) (g.B.Fixing.judged l.initial.board) l.requests
    (g.B.Asking.held l.board) (g.B.Fixing.judged l.board) l.request-index
