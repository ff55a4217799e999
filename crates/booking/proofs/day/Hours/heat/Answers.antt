use Rattle.std.proofs.Common.{◌≡◌, ◌*◌, ◌≤◌, ℤ, pos, nat_abs, sym, ap, ◌∙◌, subst, w64, to_z, of_z}
use Rattle.std.proofs.lemmas.Int.{to_z-of_z}
use Rattle.booking.specs.Day.{day_volume}
use Rattle.booking.proofs.Limits.{day_limit}
use Rattle.booking.proofs.Peaks.{whole_day}
use Rattle.booking.proofs.day.Hours.heat.Goals as goal

pub returns-clause-few : goal.returns-clause-few
returns-clause-few c =
    let words = c.self.inside.words.now in
    let units = c.heat.inside.units in
    let heat : to_z w64 (of_z w64 c.day_heat.result) ≡ pos (day_volume words * units) =
    to_z-of_z w64 c.day_heat.result (record { sfits = c.day_heat.type_inv }) ∙ c.day_heat.ensures.value
    ∙ ap (λ hs. pos (day_volume hs * units)) (whole_day words c.self.invariant) in
    subst (λ (z : ℤ). nat_abs z ≤ 120000000000) (sym heat) (day_limit words units c.self.invariant c.heat.invariant)
