-- What a settled volume comes to: the kind of price that it takes, its yen, and the tax on them.
use Rattle.std.specs.Prelude.{ℕ, zero, suc, ◌*◌, ◌/◌, Bool, true, false, ℤ, pos, negsuc, unsigned_abs}
use Rattle.prices.specs.Price.{PricesTold}
use Rattle.shares.specs.Month.{with_sign}
use Rattle.settlement.specs.declared.PriceKind.{PriceKind}
use Rattle.settlement.specs.declared.PriceKind.TheVariants.{Plain, Low, High}

abbrev pub kind_number : PriceKind → ℕ
kind_number Plain = 0
kind_number Low = 1
kind_number High = 2

-- the instigator takes low for what it put in too much, and high for what it put in too little; everyone else, and who
-- settles nothing, takes plain
abbrev pub kind_of : Bool → ℤ → PriceKind
kind_of false settled = Plain
kind_of true (pos zero) = Plain
kind_of true (pos (suc n)) = Low
kind_of true (negsuc n) = High

abbrev pub price_of : PriceKind → PricesTold → ℕ
price_of Plain prices = prices.plain
price_of Low prices = prices.low
price_of High prices = prices.high

-- |figure| × factor ÷ 100, with the figure's sign
abbrev pub hundredths : ℤ → ℕ → ℤ
hundredths figure factor = with_sign figure (unsigned_abs figure * factor / 100)

-- of a settled volume in m³, at a price in sen per m³
abbrev pub yen_of : ℤ → ℕ → ℤ
yen_of settled price = hundredths settled price

-- of yen, at a percentage
abbrev pub tax_of : ℤ → ℕ → ℤ
tax_of yen percent = hundredths yen percent
