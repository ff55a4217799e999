-- A part of a size is no more than the size.
use Rattle.std.proofs.Common.{ℕ, ◌+◌, ◌*◌, ◌/◌, ◌<◌, ◌≤◌, add-mul, mul-le-mul_left, arith}
use Rattle.std.proofs.lemmas.Nat.{div_below}

pub part_le : (size carried moved : ℕ) → carried ≤ moved → 0 < moved → size * carried / moved ≤ size
part_le size carried moved h some =
    let less : size * carried < (size + 1) * moved = omega (arith, mul-le-mul_left size h, add-mul size 1 moved) in
    omega (arith, div_below (size * carried) moved (size + 1) some less)
