use Rattle.std.proofs.Common.{◌≡◌, ◌+◌, ◌<◌, List, get_or, take, drop, Some, None, sym, ap, ◌∙◌, arith, rules}
use Rattle.accounts.specs.Told.{AccountTold}
use Rattle.accounts.specs.Accounts.{blank, issued_if}
use Rattle.statement.specs.declared.line.Line.{Line}
use Rattle.statement.specs.Statement.{no_line}
use Rattle.rolls.proofs.Filled.{told_more, rest_more}
use Rattle.drawings.specs.Drawing.{each, limited, issued_at}
use Rattle.drawings.proofs.Eaches.{after, goes_on, stops}
use Rattle.drawings.proofs.issuing.issued_roll.Goals as goal

pub returns-in_err-next : goal.returns-in_err-next
returns-in_err-next c =
    let i = c.loop-i.i in
    let x = c.account-item.result in
    let line : c.unwrap_or-line.result ≡ get_or c.args.lines.now i no_line = search rules in
    let over : c.issued.result ≡ None = grind arith in
    let none : None ≡ issued_if (get_or c.args.lines.now i no_line) x = sym over ∙ c.issued.ensures.value ∙ ap (λ (l : Line). issued_if l x) line in
    let stop = stops (issued_at c.args.lines.now) c.accounts-account-items.result.now i (take i c.loop-i.accounts) x _
    (ap (limited i) none ∙ ap (issued_at c.args.lines.now i) c.account-item.is) c.loop-i-test.true ∙ c.loop-i.invariant.whole in
    record { value = grind (arith, stop) }

pub loop-i-preserved : goal.loop-i-preserved
loop-i-preserved c =
    let answer = issued_at c.args.lines.now in
    let items = c.accounts-account-items.result.now in
    let i = c.loop-i.i in
    let x = c.account-item.result in
    let next = c.in_ok-next.next in
    let line : c.unwrap_or-line.result ≡ get_or c.args.lines.now i no_line = search rules in
    let made : c.issued.result ≡ Some next = grind arith in
    let is : Some next ≡ issued_if (get_or c.args.lines.now i no_line) x = sym made ∙ c.issued.ensures.value ∙ ap (λ (l : Line). issued_if l x) line in
    let lt : i < 16 = omega (arith, c.loop-i-test.true, c.accounts-account-items.ensures.few.1) in
    let room = c.loop-i.invariant.few in
    let rest = c.loop-i.invariant.rest in
    record {
      few = omega (arith, lt);
      rest = rest_more blank i c.loop-i.accounts room rest lt next;
      whole = ap (λ (done : List AccountTold). after done (each answer (i + 1) (drop (i + 1) items))) (told_more blank i c.loop-i.accounts room rest lt next)
          ∙ goes_on answer items i (take i c.loop-i.accounts) x next (ap (limited i) is ∙ ap (answer i) c.account-item.is) c.loop-i-test.true
          ∙ c.loop-i.invariant.whole;
    }
