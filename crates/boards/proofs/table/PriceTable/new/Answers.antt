use Rattle.std.proofs.Common.{[]}
use Rattle.boards.proofs.Empty.{nothing_held}
use Rattle.boards.proofs.table.PriceTable.new.Goals as goal

pub returns : goal.returns
returns c = record { held = nothing_held c.from_fn.result (λ i h. (c.from_fn.ensures.items.at i [] h).2.met) }
