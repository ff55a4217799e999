use Rattle.std.proofs.Common.{◌≡◌, ℕ, ◌+◌, ◌<◌, List, [], ◌∷◌, ◌++◌, length, get_or, take, drop, sym, ap, ◌∙◌, subst, arith}
use Rattle.std.proofs.lemmas.List.{take_more, take_more_set, take_all, take-append-drop, drop-set-lt, drop-drop}
use Rattle.shares.specs.Month.{Fair}
use Rattle.statement.proofs.Lines.{lines_long, line_of_shipper, fair_at}
use Rattle.statement.specs.Statement.{line_of}
use Rattle.statement.specs.declared.line.Line.{Line}
use Rattle.statement.specs.declared.month.Entry.{Entry}
use Rattle.statement.proofs.drawing.Statement.write.Goals as goal

pub line-requires-clause-fair : goal.line-requires-clause-fair
line-requires-clause-fair c =
    let s = c.self.inside in
    subst (λ (e : Entry). Fair s.basis.pool e.figures) (sym c.entry-item.is)
    (fair_at s.basis.pool s.entries.now c.loop-i.i c.entry-item.result c.loop-i-test.true c.self.invariant.1)

pub bounds-sheet-i : goal.bounds-sheet-i
bounds-sheet-i c =
    let s = c.self.inside in
    omega (
      arith,
      c.loop-i-test.true,
      c.requires.room,
      c.loop-i.auto.sheet,
      ap length c.self.view_is,
      lines_long s.basis.pool s.basis.instigator s.basis.percent 0 s.entries.now,
    )

pub loop-i-preserved : goal.loop-i-preserved
loop-i-preserved c =
    let s = c.self.inside in
    let pool = s.basis.pool in
    let lines = c.args.self.now in
    let i = c.loop-i.i in
    let sheet = c.loop-i.sheet in
    let line = c.line.result in
    let inside : i < length lines = omega (
      arith,
      c.loop-i-test.true,
      ap length c.self.view_is,
      lines_long pool s.basis.instigator s.basis.percent 0 s.entries.now,
    ) in
    let room : i < length sheet = omega (arith, inside, c.requires.room, c.loop-i.auto.sheet) in
    let due : line ≡ get_or lines i line =
    c.line.ensures.value
    ∙ ap (λ (e : Entry). line_of pool s.basis.instigator s.basis.percent i e) c.entry-item.is
    ∙ sym (line_of_shipper pool s.basis.instigator s.basis.percent s.entries.now i c.entry-item.result line c.loop-i-test.true)
    ∙ ap (λ (ls : List Line). get_or ls i line) c.self.view_is in (
      take_more_set sheet i line room ∙ (λ j. c.loop-i.invariant.0 j ++ due j ∷ []) ∙ sym (take_more lines i line inside),
      drop-set-lt (i + 1) sheet i line (omega arith)
          ∙ sym (drop-drop 1 i sheet) ∙ ap (drop 1) c.loop-i.invariant.1 ∙ drop-drop 1 i c.args.sheet.now,
    )

pub returns : goal.returns
returns c =
    let s = c.self.inside in
    let lines = c.args.self.now in
    let i = c.loop-i.i in
    let old = c.args.sheet.now in
    let end : i ≡ length lines = omega (
      arith,
      c.loop-i-test.false,
      c.loop-i.auto.i-end,
      ap length c.self.view_is,
      lines_long s.basis.pool s.basis.instigator s.basis.percent 0 s.entries.now,
    ) in
    record {
      after = sym (take-append-drop i c.loop-i.sheet) ∙ (λ j. c.loop-i.invariant.0 j ++ c.loop-i.invariant.1 j)
          ∙ ap (λ (n : ℕ). take n lines ++ drop n old) end
          ∙ ap (λ (front : List Line). front ++ drop (length lines) old) (take_all (length lines) lines (omega arith));
    }
