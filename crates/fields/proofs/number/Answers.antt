use Rattle.std.proofs.Common.{◌≡◌, ℕ, List, [], ◌∷◌, None, refl, arith}
use Rattle.std.proofs.lemmas.Grind.{common_steps}
use Rattle.fields.specs.Numbers.{digits_from}
use Rattle.fields.specs.declared.Base.{Base}
use Rattle.fields.proofs.number.Goals as goal

-- after what is no digit, no number comes of the rest
nothing : (base : Base) (most : ℕ) (bytes : List ℕ) → digits_from base most None bytes ≡ None
nothing base most [] = refl
nothing base most (byte ∷ bytes) = refl

pub returns-in_err-number-clause-value : goal.returns-in_err-number-clause-value
returns-in_err-number-clause-value c = grind (arith, common_steps, nothing)
