use Rattle.std.proofs.Common.{◌≡◌, pos, ◌*ℤ◌, sym, ap, ◌∙◌, subst, arith, w32, w64, SFits, to_z, of_z}
use Rattle.std.proofs.lemmas.Int.{to_z-of_z}
use Rattle.booking.proofs.Products.{product_fits}
use Rattle.booking.proofs.day.correction_heat.Goals as goal

-- the factors, free of the machine's bits
factors : (c : goal.After-from-2) →
    to_z w64 (of_z w64 c.from.result) *ℤ to_z w64 (of_z w64 c.from-2.result) ≡ c.args.volume *ℤ pos c.args.heat
factors c =
    let volume : to_z w64 (of_z w64 c.from.result) ≡ c.args.volume =
    to_z-of_z w64 c.from.result (record { sfits = c.from.type_inv }) ∙ c.from.ensures ∙ to_z-of_z w32 c.args.volume c.ranges.volume in
    let heat : to_z w64 (of_z w64 c.from-2.result) ≡ pos c.args.heat =
    to_z-of_z w64 c.from-2.result (record { sfits = c.from-2.type_inv }) ∙ c.from-2.ensures in
    λ i. volume i *ℤ heat i

fits : (c : goal.After-from-2) → SFits w64 (c.args.volume *ℤ pos c.args.heat)
fits c = product_fits c.args.volume c.args.heat c.ranges.volume (omega (arith, c.ranges.heat.fits))

pub overflow_mul-result : goal.overflow_mul-result
overflow_mul-result c = subst (SFits w64) (sym (factors c)) (fits c)

pub returns : goal.returns
returns c = record { value = ap (λ z. to_z w64 (of_z w64 z)) (factors c) ∙ to_z-of_z w64 _ (fits c) }
