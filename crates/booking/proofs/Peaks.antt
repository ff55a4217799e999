-- A day's hours: they are 24, and the greatest word stands where the greatest volume does, since all have one kind.
use Rattle.std.proofs.Common.{◌≡◌, ℕ, ◌^◌, ltb, List, take, Option, unwrap_or, ap, ◌∙◌, arith}
use Rattle.std.specs.Cmp.{nat_cmp_total}
use Rattle.std.proofs.lemmas.Nat.{div-add-mod'}
use Rattle.std.proofs.lemmas.List.{take_all, get_or_default}
use Rattle.std.proofs.lemmas.Bool.Decides.{nat_tests}
use Rattle.greatest.specs.Greatest.{first_greatest, below}
use Rattle.greatest.proofs.Tests.{same_greatest}
use Rattle.tickets.specs.Words.{kind_of}
use Rattle.tickets.specs.Reader.{SoundHours}
use Rattle.booking.specs.Day.{less_gas, peak_hour}

pub by_number : (xs : List ℕ) → first_greatest (below nat_cmp_total) xs ≡ first_greatest ltb xs
by_number xs = same_greatest (below nat_cmp_total) ltb (λ _. Unit {0}) (λ x y p q. grind (arith, nat_tests)) xs (λ k d h. tt)

agrees : (x y : ℕ) → kind_of x ≡ 9 → kind_of y ≡ 9 → ltb x y ≡ less_gas x y
agrees x y p q = grind (arith, nat_tests, div-add-mod' x (2 ^ 28), div-add-mod' y (2 ^ 28))

pub peak_by_volume : (hours : List ℕ) → SoundHours hours → unwrap_or (first_greatest ltb hours) 0 ≡ peak_hour hours
peak_by_volume hours sound =
    ap (λ (o : Option ℕ). unwrap_or o 0) (same_greatest ltb less_gas (λ w. kind_of w ≡ 9) agrees hours
    (λ k d h. ap kind_of (get_or_default hours k d 0 h) ∙ sound.kinds k (omega (arith, sound.count))))

pub whole_day : (hours : List ℕ) → SoundHours hours → take 24 hours ≡ hours
whole_day hours sound = take_all 24 hours (omega (arith, sound.count))
