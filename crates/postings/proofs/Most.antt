-- The heat of a sound correction is within its limit.
use Rattle.std.proofs.Common.{ℕ, suc, ◌≤◌, ℤ, pos, negsuc, ◌*ℤ◌, nat_abs, arith}
use borrow.Author.Differences.{ints}
use Rattle.std.proofs.lemmas.Nat.{mul-le}

pub correction_limit : (volume : ℤ) (heat : ℕ) → nat_abs volume ≤ 24000000 → heat ≤ 5000 → nat_abs (volume *ℤ pos heat) ≤ 120000000000
correction_limit (pos n) heat v h = omega (arith, ints, mul-le n heat 24000000 5000 v h)
correction_limit (negsuc n) heat v h = omega (arith, ints, mul-le (suc n) heat 24000000 5000 v h)
