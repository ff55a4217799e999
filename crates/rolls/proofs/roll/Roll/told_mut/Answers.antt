-- A shipper's place is one of those told, whatever is written there.
use Rattle.std.proofs.Common.{◌<◌, List, length, set, refl, ap, ◌∙◌, arith}
use Rattle.std.proofs.lemmas.List.{places}
use Rattle.rolls.proofs.Filled.{told_again, sound_again}
use Rattle.rolls.proofs.roll.Roll.told_mut.Goals as goal

pub invariant_of-self-lent : goal.invariant_of-self-lent
invariant_of-self-lent g c w =
    sound_again g.A.Spare.spare c.self.inside c.self.invariant c.args.shipper w
    (omega (arith, c.requires, c.self.invariant.long, ap length c.self.view_is))

pub returns : goal.returns
returns g c =
    let lt : c.args.shipper < c.self.inside.count = omega (arith, c.requires, c.self.invariant.long, ap length c.self.view_is) in
    let left = λ (w : g.row.A.Denot). told_again g.A.Spare.spare c.self.inside c.self.invariant c.args.shipper w lt
    ∙ ap (λ (items : List g.row.A.Denot). set items c.args.shipper w) c.self.view_is in (
      (refl, left),
      record { writes_back = tt; value = grind (arith, places) },
    )
