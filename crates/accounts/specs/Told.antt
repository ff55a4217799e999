-- A shipper's account by value.
use Rattle.std.specs.Prelude.{ℕ, Bool, List, ℤ}
use Rattle.sides.specs.declared.Pair.{Pair}

pub record AccountTold : Type 0 where
  pub remainders : Pair ℕ
  pub volumes : Pair ℕ
  pub metered : Pair (List Bool)
  pub plan : ℕ
  pub planned : List Bool
  pub older : ℤ
  pub newer : ℤ
  pub settled : ℤ
  pub yen : ℤ
