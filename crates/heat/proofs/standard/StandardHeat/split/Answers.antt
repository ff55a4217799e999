use Rattle.std.proofs.Common.{◌≡◌, ◌+◌, ◌<◌, pos, nat_abs, sym, ap, ◌∙◌, arith, w64, SFits, rules}
use Rattle.std.proofs.lemmas.Nat.{mod_below}
use Rattle.std.proofs.lemmas.Int.{to_z-of_z}
use Rattle.std.specs.Int.{int_div_euclid, int_rem_euclid}
use Rattle.heat.specs.Split.{split_of}
use Rattle.heat.proofs.Splits.{split_is, split_conserves, bits_fit, bits_are}
use Rattle.heat.proofs.standard.StandardHeat.split.Goals as goal

pub overflow_add-result : goal.overflow_add-result
overflow_add-result c =
    let u = c.from-units.result in
    let units = c.from-units.ensures ∙ c.self.view_is in
    let same = to_z-of_z w64 c.args.heat c.ranges.heat in
    let held : SFits w64 c.floor-alone.result.booked = search rules in
    bits_fit u c.args.heat c.floor-alone.result.booked c.from.result c.from-2.result
    (omega (arith, c.from-units.ensures, c.self.invariant.0)) (omega (arith, c.from-units.ensures, c.self.invariant.1)) c.ranges.heat held
    (c.floor-alone.ensures.booked ∙ (λ i. int_div_euclid (same i) (pos (sym units i))))
    (c.from.ensures ∙ ap nat_abs (c.floor-alone.ensures.remainder ∙ (λ i. int_rem_euclid (same i) (pos (sym units i)))))
    (omega (arith, c.from-2.ensures, c.ranges.remainder.fits))

pub returns : goal.returns
returns c =
    let u = c.from-units.result in
    let heat = c.args.heat in
    let alone = c.floor-alone.result.booked in
    let m = c.from.result in
    let r = c.from-2.result in
    let units = c.from-units.ensures ∙ c.self.view_is in
    let same = to_z-of_z w64 heat c.ranges.heat in
    let held : SFits w64 alone = search rules in
    let quotient : alone ≡ int_div_euclid heat (pos u) = c.floor-alone.ensures.booked ∙ (λ i. int_div_euclid (same i) (pos (sym units i))) in
    let rest : m ≡ nat_abs (int_rem_euclid heat (pos u)) =
    c.from.ensures ∙ ap nat_abs (c.floor-alone.ensures.remainder ∙ (λ i. int_rem_euclid (same i) (pos (sym units i)))) in
    let sum = bits_are u heat alone m r (omega (arith, c.from-units.ensures, c.self.invariant.0)) (omega (arith, c.from-units.ensures, c.self.invariant.1))
    c.ranges.heat held quotient rest (omega (arith, c.from-2.ensures, c.ranges.remainder.fits)) in
    let some : 0 < u = omega (arith, c.from-units.ensures, c.self.invariant.0) in
    record {
      value = split_is u heat alone _ m r some quotient rest sum ∙ (λ i. split_of (units i) heat (c.from-2.ensures i));
      conserved = split_conserves u heat alone _ m r some quotient rest sum _ _ units c.from-2.ensures;
      below = omega (arith, mod_below (m + r) u some, units);
      least = omega (arith, c.self.view_is, c.self.invariant.0);
      most = omega (arith, c.self.view_is, c.self.invariant.1);
    }
