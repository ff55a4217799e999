-- What the opening fixes, by value.
use Rattle.std.specs.Prelude.{ℕ}

pub record TermsTold : Type 0 where
  pub first : ℕ
  pub standard : ℕ
  pub tax : ℕ
