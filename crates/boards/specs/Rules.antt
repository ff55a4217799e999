-- The two price rules: the prices that evidence gives, in sen per m³, or none where it does not stand.
use Rattle.std.specs.Prelude.{ℕ, ◌+◌, ◌-◌, ◌*◌, ◌/◌, ◌^◌, Bool, cond, ◌&&◌, None, Option, nat_le}
use Rattle.prices.specs.Price.{PricesTold, prices_of}
use Rattle.boards.specs.declared.index.IndexEvidence.{IndexEvidence}
use Rattle.boards.specs.declared.cost.CostEvidence.{CostEvidence}

-- so many percent of a base, and the manufacturing price on top
abbrev pub percent_price : ℕ → ℕ → ℕ → ℕ
percent_price base percent manufacturing = base * percent / 100 + manufacturing

abbrev pub index_stands : IndexEvidence → Bool
index_stands e = nat_le e.lng 100000 && nat_le e.lpg 100000 && nat_le e.tax 100000 && nat_le e.share 100

abbrev pub index_base : IndexEvidence → ℕ
index_base e = (e.lng * e.share + e.lpg * (100 - e.share)) / 100 + e.tax

abbrev pub index_prices : ℕ → IndexEvidence → Option PricesTold
index_prices manufacturing e =
    cond (index_stands e)
    (prices_of (percent_price (index_base e) 70 manufacturing) (index_base e + manufacturing) (percent_price (index_base e) 130 manufacturing))
    None

abbrev pub cost_stands : CostEvidence → Bool
cost_stands e = nat_le e.customs 100000 && nat_le e.cost (10 ^ 13) && nat_le 1 e.volume && nat_le e.volume (10 ^ 10)

abbrev pub cost_prices : ℕ → ℕ → CostEvidence → Option PricesTold
cost_prices plain customs e =
    cond (cost_stands e)
    (prices_of (percent_price e.customs 70 customs) (100 * e.cost / e.volume + plain) (percent_price e.customs 130 customs))
    None
