-- A 32-bit volume times a 16-bit heat fits 64 bits.
use Rattle.std.proofs.Common.{ℕ, suc, ◌^◌, ◌<◌, ℤ, pos, negsuc, ◌*ℤ◌, arith, w32, w64, SFits}
use borrow.Author.Differences.{ints}
use Rattle.std.proofs.lemmas.Nat.{mul-le}

pub product_fits : (v : ℤ) (h : ℕ) → SFits w32 v → h < 2 ^ 16 → SFits w64 (v *ℤ pos h)
product_fits (pos a) h f k = omega (arith, ints, f.sfits, mul-le a h (2 ^ 31) (2 ^ 16) (omega (arith, f.sfits)) (omega arith))
product_fits (negsuc a) h f k = omega (arith, ints, f.sfits, mul-le (suc a) h (2 ^ 31) (2 ^ 16) (omega (arith, f.sfits)) (omega arith))
