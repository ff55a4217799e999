-- What a table of prices holds for a shipper and a place in the year.
use Rattle.std.specs.Prelude.{ℕ, cond, ◌&&◌, [], None, Option, nat_lt, slice_index_or}
use Rattle.prices.specs.Price.{PricesTold}
use Rattle.boards.specs.declared.table.PriceTable.{PriceTable}

abbrev pub table_held : PriceTable → ℕ → ℕ → Option PricesTold
table_held table shipper place =
    cond (nat_lt shipper 16 && nat_lt place 12) (slice_index_or (slice_index_or table.prices shipper []) place None) None
