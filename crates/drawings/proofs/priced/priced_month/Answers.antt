use Rattle.std.proofs.Common.{◌≡◌, ℕ, ◌+◌, true, ltb, List, ◌∷◌, [], ◌++◌, length, drop, Some, None, ap, ◌∙◌, arith, lt-ltb, rules}
use Rattle.std.proofs.lemmas.List.{length_push}
use Rattle.accounts.specs.Accounts.{figures_told}
use Rattle.statement.specs.declared.month.Entry.{Entry}
use Rattle.drawings.specs.Drawing.{each, priced, priced_at}
use Rattle.drawings.proofs.Eaches.{after, goes_on, stops, ends, begun}
use Rattle.drawings.proofs.priced.priced_month.Goals as goal

pub loop-i-init : goal.loop-i-init
loop-i-init g c =
    let answer = priced_at (g.B.Asking.held c.args.board.now) c.args.place in
    let items = c.accounts-account-items.result.now in
    record {
      long = ap length c.new-month.ensures.entries;
      whole = ap (λ (es : List Entry). after es (each answer 0 items)) c.new-month.ensures.entries
          ∙ begun (each answer 0 items) ∙ ap (each answer 0) c.accounts-account-items.ensures.value;
    }

pub returns-in_err-prices : goal.returns-in_err-prices
returns-in_err-prices g c =
    let held = g.B.Asking.held c.args.board.now in
    let i = c.loop-i.i in
    let x = c.account-item.result in
    let lacks : c.ask.result ≡ None = grind arith in
    let none : None ≡ held i c.args.place = search rules in
    let answer = priced_at held c.args.place in
    let due = ap (λ o. priced i o x) none ∙ ap (answer i) c.account-item.is in
    let here = stops answer c.accounts-account-items.result.now i c.loop-i.month x _ due c.loop-i-test.true in
    let stop = here ∙ c.loop-i.invariant.whole in
    record { value = grind (arith, stop) }

pub loop-i-preserved : goal.loop-i-preserved
loop-i-preserved g c =
    let held = g.B.Asking.held c.args.board.now in
    let answer = priced_at held c.args.place in
    let items = c.accounts-account-items.result.now in
    let i = c.loop-i.i in
    let x = c.account-item.result in
    let done = c.loop-i.month in
    let is : Some c.in_ok-prices.prices ≡ held i c.args.place = search rules in
    let entry : Entry = record { figures = figures_told x; prices = c.in_ok-prices.prices } in
    let room : ltb (length done) 16 ≡ true = lt-ltb (length done) 16 (omega (arith, c.loop-i.invariant.long, c.loop-i-test.true, c.accounts-account-items.ensures.few.1)) in
    let more : c.add.new.self ≡ done ++ entry ∷ [] = search rules in
    record {
      long = ap length more ∙ length_push done entry ∙ ap (λ (n : ℕ). n + 1) c.loop-i.invariant.long;
      whole = ap (λ (es : List Entry). after es (each answer (i + 1) (drop (i + 1) items))) more
          ∙ goes_on answer items i done x entry (ap (λ o. priced i o x) is ∙ ap (answer i) c.account-item.is) c.loop-i-test.true
          ∙ c.loop-i.invariant.whole;
    }

pub returns : goal.returns
returns g c = record {
  value = ends (priced_at (g.B.Asking.held c.args.board.now) c.args.place) c.accounts-account-items.result.now c.loop-i.i c.loop-i.month
      (omega (arith, c.loop-i-test.false)) ∙ c.loop-i.invariant.whole;
}
