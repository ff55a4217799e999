-- What the stirred shippers of a month come to, by value.
use Rattle.std.specs.Prelude.{ℕ}

-- how many are stirred; V2, the sum of their carries; V3, the sum of their imbalances without sign
pub record PoolTold : Type 0 where
  pub count : ℕ
  pub carried : ℕ
  pub moved : ℕ
