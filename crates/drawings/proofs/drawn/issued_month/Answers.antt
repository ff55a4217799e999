use Rattle.std.proofs.Common.{List, ap, ◌∙◌, arith}
use Rattle.shares.specs.Month.{pool_of}
use Rattle.rates.specs.Rates.{instigator_of}
use Rattle.statement.specs.declared.line.Line.{Line}
use Rattle.statement.specs.Statement.{figures_of, rates_of, statement_of}
use Rattle.statement.proofs.Lines.{lines_long}
use Rattle.drawings.specs.Drawing.{issued_roll}
use Rattle.drawings.proofs.Lines.{drawn_same}
use Rattle.drawings.proofs.drawn.issued_month.Goals as goal

pub returns : goal.returns
returns c =
    let entries = c.args.month.now in
    let accounts = c.args.roll.now in
    let long = lines_long (pool_of (figures_of entries)) (instigator_of (rates_of entries)) c.args.percent 0 entries in
    record {
      value = c.issued_roll.ensures.value ∙ ap (λ (lines : List Line). issued_roll lines accounts) c.draw.ensures.after
          ∙ drawn_same (statement_of c.args.percent entries) accounts (omega (arith, long, c.draw.ensures.few));
    }
