-- Three prices by value, when there are such prices, and their text.
use Rattle.std.specs.Prelude.{ℕ, Bool, cond, ◌&&◌, List, ◌++◌, Some, None, codes, decimal, Option, nat_le}

-- in sen per m³
pub record PricesTold : Type 0 where
  pub low : ℕ
  pub plain : ℕ
  pub high : ℕ

-- a price is from 1 to 100,000
abbrev pub in_range : ℕ → Bool
in_range price = nat_le 1 price && nat_le price 100000

abbrev pub prices_of : ℕ → ℕ → ℕ → Option PricesTold
prices_of low plain high =
    cond (in_range low && in_range plain && in_range high) (Some (record { low = low; plain = plain; high = high })) None

-- low, plain and high, with one space between
abbrev pub prices_text : PricesTold → List ℕ
prices_text prices = decimal prices.low ++ (codes " " ++ (decimal prices.plain ++ (codes " " ++ decimal prices.high)))
