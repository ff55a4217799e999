-- A pair by its sides: what one side holds, and the pair with one side replaced.
use Rattle.sides.specs.declared.Side.{Side}
use Rattle.sides.specs.declared.Side.TheVariants.{Receipts, Deliveries}
use Rattle.sides.specs.declared.Pair.{Pair}

abbrev pub side_of : {T : Type 0} → Side → Pair T → T
side_of Receipts pair = pair.receipts
side_of Deliveries pair = pair.deliveries

abbrev pub with_side : {T : Type 0} → Side → Pair T → T → Pair T
with_side Receipts pair value = record { receipts = value; deliveries = pair.deliveries }
with_side Deliveries pair value = record { receipts = pair.receipts; deliveries = value }
