-- A number has one digit, or one more than its tenth.
use Rattle.std.proofs.Common.{◌^◌, ◌<◌, length, sym, ap, arith}
use Rattle.text.proofs.Decimals.{one_digit, length_more, length_below}
use Rattle.text.proofs.+digits.Goals as goal

pub returns-then-n-lt10-clause-value : goal.returns-then-n-lt10-clause-value
returns-then-n-lt10-clause-value t c = sym (ap length (one_digit c.args.n c.if-n-lt10.true))

pub returns-else-n-lt10 : goal.returns-else-n-lt10
returns-else-n-lt10 t c =
    let n = c.args.n in
    let fit : n < 2 ^ 64 = omega arith in
    let more = length_more n c.if-n-lt10.false fit in
    record { value = omega (arith, more); bound = omega (arith, more, length_below n fit) }
