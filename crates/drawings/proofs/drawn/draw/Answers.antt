-- A month has a line for each account, so a sheet that is long enough for the accounts is never refused.
use Rattle.std.proofs.Common.{◌≡◌, ℕ, false, cond, ltb, length, Some, None, Ok, Err, Result, sym, ap, ◌∙◌, arith, le-ltb}
use Rattle.refusals.specs.Grounds.{refusal_at}
use Rattle.refusals.specs.declared.Refusal.{Refusal}
use Rattle.refusals.specs.declared.Ground.TheVariants.{SheetShort}
use Rattle.refusals.specs.declared.Layer.TheVariants.{Sheet}
use Rattle.prices.specs.Board.{ruling}
use Rattle.drawings.specs.Drawing.{priced_at}
use Rattle.drawings.proofs.Eaches.{each_long}
use Rattle.drawings.proofs.drawn.draw.Goals as goal

abbrev failed : Result (Unit {0}) Refusal → ℕ
failed (Ok done) = 0
failed (Err refusal) = 1

pub returns-in_err-draw-clause-value : goal.returns-in_err-draw-clause-value
returns-in_err-draw-clause-value g c =
    let month = c.in_ok-month.month in
    let sheet = c.args.sheet.now in
    let long = each_long (priced_at (g.B.Asking.held c.args.board.now) c.args.place) 0 c.args.roll.now month c.in_ok-month.ensures.value in
    let fits : ltb (length sheet) (length month) ≡ false =
    le-ltb (length sheet) (length month) (omega (arith, long, c.if-sheet-accounts.false, ap length c.accounts.ensures.value)) in
    let drawn : c.draw.result ≡ Ok tt =
    c.draw.ensures.value ∙ ap (λ b. ruling (cond b (Some (refusal_at SheetShort Sheet (length sheet))) None)) fits in
    let no : ◌≡◌ {A = ℕ} 0 1 = ap failed (sym drawn ∙ c.in_err-draw.was) in absurd (omega (arith, no))
