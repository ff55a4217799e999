-- The entry stands at the next place, and the places after it are still of no shipper.
use Rattle.std.proofs.Common.{ℕ, ◌+◌, ◌-◌, drop, replicate, sym, ap, ◌∙◌, arith}
use Rattle.std.proofs.lemmas.List.{length-set, drop-set-lt, drop-drop, drop-replicate}
use Rattle.statement.specs.Statement.{no_shipper}
use Rattle.statement.proofs.month.Month.add.Goals as goal

pub invariant_of-self : goal.invariant_of-self
invariant_of-self c =
    let m = c.self.inside in
    record {
      few = omega (arith, c.if-self-ge-SHIPPERS.false);
      whole = length-set m.entries m.count c.args.entry ∙ c.self.invariant.whole;
      rest = drop-set-lt (m.count + 1) m.entries m.count c.args.entry (omega arith)
          ∙ sym (drop-drop 1 m.count m.entries)
          ∙ ap (drop 1) c.self.invariant.rest
          ∙ drop-replicate 1 (16 - m.count) no_shipper
          ∙ ap (λ (n : ℕ). replicate n no_shipper) (omega arith);
    }
