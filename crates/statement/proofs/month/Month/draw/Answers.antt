use Rattle.std.proofs.Common.{cond, ◌++◌, length, drop, sym, ap, arith, lt-ltb}
use Rattle.shares.specs.Month.{pool_of}
use Rattle.rates.specs.Rates.{instigator_of}
use Rattle.statement.specs.Statement.{figures_of, rates_of, statement_of}
use Rattle.statement.proofs.Laws.{fair_lines, calm_lines}
use Rattle.statement.proofs.Lines.{lines_long}
use Rattle.statement.proofs.month.Month.draw.Goals as goal

pub returns-then-sheet-len-clause-after : goal.returns-then-sheet-len-clause-after
returns-then-sheet-len-clause-after c =
    let entries = c.args.self.now in
    let lines = statement_of c.args.percent entries in
    let sheet = c.args.sheet.now in
    let long = lines_long (pool_of (figures_of entries)) (instigator_of (rates_of entries)) c.args.percent 0 entries in
    ap (λ b. cond b sheet (lines ++ drop (length lines) sheet))
    (sym (lt-ltb (length sheet) (length lines) (omega (arith, long, c.if-sheet-len.true, c.len.ensures.value))))

pub returns-then-sheet-len-clause-fair : goal.returns-then-sheet-len-clause-fair
returns-then-sheet-len-clause-fair c =
    let entries = c.args.self.now in
    fair_lines (instigator_of (rates_of entries)) c.args.percent entries c.statement-statement.ensures.fair

pub returns-then-sheet-len-clause-calm : goal.returns-then-sheet-len-clause-calm
returns-then-sheet-len-clause-calm c =
    let entries = c.args.self.now in
    calm_lines (instigator_of (rates_of entries)) c.args.percent entries c.statement-statement.ensures.calm

pub write-requires : goal.write-requires
write-requires c =
    let entries = c.args.self.now in
    let long = lines_long (pool_of (figures_of entries)) (instigator_of (rates_of entries)) c.args.percent 0 entries in
    record { room = omega (arith, long, ap length c.statement-statement.ensures.value, c.if-sheet-len.false, c.len.ensures.value) }

pub returns-clause-fair : goal.returns-clause-fair
returns-clause-fair c =
    let entries = c.args.self.now in
    fair_lines (instigator_of (rates_of entries)) c.args.percent entries c.statement-statement.ensures.fair

pub returns-clause-calm : goal.returns-clause-calm
returns-clause-calm c =
    let entries = c.args.self.now in
    calm_lines (instigator_of (rates_of entries)) c.args.percent entries c.statement-statement.ensures.calm
