use Rattle.std.proofs.Common.{take, ap, ◌∙◌}
use Rattle.fixings.proofs.Through.{kept_more, stays_through}
use Rattle.fixings.proofs.fix_all.Goals as goal

pub loop-request-preserved : goal.loop-request-preserved
loop-request-preserved g c =
    kept_more (g.B.Asking.held c.args.board.now) (g.B.Fixing.judged c.args.board.now) c.args.requests.now
    (g.B.Asking.held c.loop-request.board) (g.B.Asking.held c.fix.new.self)
    (g.B.Fixing.judged c.loop-request.board) (g.B.Fixing.judged c.fix.new.self) c.loop-request.request-index c.request-item.result
    c.loop-request.invariant c.loop-request-test.true c.request-item.is c.fix.ensures.held c.fix.ensures.rule

pub returns-clause-kept : goal.returns-clause-kept
returns-clause-kept g c = λ s p some.
    ap (λ held. held s p) c.loop-request.invariant.through
    ∙ stays_through (g.B.Asking.held c.args.board.now) (g.B.Fixing.judged c.args.board.now)
    (take c.loop-request.request-index c.args.requests.now) s p some
