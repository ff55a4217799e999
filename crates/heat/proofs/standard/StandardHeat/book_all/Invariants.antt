use Rattle.std.proofs.Common.{◌*◌, ◌^◌, ◌≤◌, nat_abs}
use Rattle.heat.proofs.Runs.{Kept}
use Rattle.heat.proofs.standard.StandardHeat.book_all.Given as goal

abbrev pub invariant-loop-heat : goal.invariant-loop-heat
invariant-loop-heat l =
    (nat_abs l.run.booked ≤ 2 ^ 63 * l.heat-index)
    × Kept l.self l.heats l.remainder l.heat-index l.run.booked l.run.remainder
