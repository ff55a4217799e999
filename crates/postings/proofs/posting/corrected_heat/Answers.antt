use Rattle.std.proofs.Common.{◌≡◌, ◌≤◌, ℤ, pos, ◌*ℤ◌, nat_abs, sym, ap, ◌∙◌, subst, w32, w64, to_z, of_z}
use Rattle.std.proofs.lemmas.Int.{to_z-of_z}
use Rattle.postings.proofs.Most.{correction_limit}
use Rattle.postings.proofs.posting.corrected_heat.Goals as goal

pub invariant_of-result : goal.invariant_of-result
invariant_of-result c =
    let volume = c.args.volume in
    let heat = c.heat.inside.units in
    let units : to_z w64 (of_z w64 c.correction_heat-units.result) ≡ volume *ℤ pos heat =
    to_z-of_z w64 c.correction_heat-units.result (record { sfits = c.correction_heat-units.type_inv })
    ∙ c.correction_heat-units.ensures.value
    ∙ ap (λ v. v *ℤ pos heat) (to_z-of_z w32 volume c.ranges.volume) in
    subst (λ (z : ℤ). nat_abs z ≤ 120000000000) (sym units) (correction_limit volume heat c.requires c.heat.invariant)
