use Rattle.std.proofs.Common.{◌*◌, ◌^◌, ◌<◌, ◌≤◌, pos, ◌∙◌, arith, w64}
use borrow.Author.Differences.{ints}
use Rattle.std.proofs.lemmas.Nat.{mul-le}
use Rattle.std.proofs.lemmas.Int.{to_z_pos}
use Rattle.booking.proofs.day.day_heat.Goals as goal

below : (c : goal.After-from) → c.day_volume.result * c.from.result < 2 ^ 63
below c =
    let small : c.from.result ≤ 2 ^ 16 = omega (arith, c.from.ensures, c.ranges.heat.fits) in
    omega (arith, mul-le c.day_volume.result c.from.result (24 * 2 ^ 28) (2 ^ 16) c.day_volume.ensures.bound small)

pub overflow_cast-result : goal.overflow_cast-result
overflow_cast-result c = omega (arith, ints, below c)

pub returns : goal.returns
returns c = record {
  value = to_z_pos w64 (c.day_volume.result * c.from.result) (below c)
      ∙ (λ i. pos (c.day_volume.ensures.value i * c.from.ensures i));
}
