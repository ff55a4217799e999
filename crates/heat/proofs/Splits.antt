-- The split by two divisions, of the heat alone and of the two remainders, is the split of the whole.
use Rattle.std.proofs.Common.{◌≡◌, ℕ, ◌+◌, ◌/◌, ◌%◌, ◌^◌, ◌<◌, ◌≤◌, ℤ, pos, ◌+ℤ◌, ◌-ℤ◌, ◌*ℤ◌, nat_abs, sym, ap, ◌∙◌, subst, div-le_self, arith, w64, SFits, to_z, of_z}
use lib.IntN.{*ℤ_comm}
use borrow.Author.Differences.{ints}
use Rattle.std.proofs.lemmas.Nat.{div-add-mod', mod_below}
use Rattle.std.proofs.lemmas.Int.{to_z-of_z, to_z_pos}
use Rattle.std.specs.Int.{int_div_euclid, int_rem_euclid}
use Rattle.heat.specs.Split.{split_of}
use Rattle.heat.specs.declared.split.Split.{Split}
use Rattle.heat.proofs.Floor.{over_sum, floors, whole, quotient_small}

module _ (s : ℕ) (heat alone booked : ℤ) (m r : ℕ) (some : 0 < s) (quotient : alone ≡ int_div_euclid heat (pos s))
    (rest : m ≡ nat_abs (int_rem_euclid heat (pos s))) (sum : booked ≡ alone +ℤ pos ((m + r) / s)) where
  joined : heat +ℤ pos r ≡ booked *ℤ pos s +ℤ pos ((m + r) % s)
  joined =
      let h = whole heat s some in
      let first : heat ≡ alone *ℤ pos s +ℤ pos m =
      h.sum ∙ ap (λ q. q *ℤ pos s +ℤ int_rem_euclid heat (pos s)) (sym quotient)
      ∙ ap (λ t. alone *ℤ pos s +ℤ t) (h.natural ∙ ap pos (sym rest)) in
      let both : booked *ℤ pos s ≡ alone *ℤ pos s +ℤ pos ((m + r) / s) *ℤ pos s =
      ap (λ q. q *ℤ pos s) sum ∙ over_sum alone (pos ((m + r) / s)) s in
      omega (arith, ints, first, both, div-add-mod' (m + r) s)

  pub split_is : ◌≡◌ {A = Split ℤ} (record { booked = booked; remainder = (m + r) % s }) (split_of s heat r)
  split_is =
      let f = floors (heat +ℤ pos r) s booked ((m + r) % s) (mod_below (m + r) s some) joined in
      λ i. record { booked = sym f.quotient i; remainder = nat_abs (sym f.rest i) }

  pub split_conserves : (s' r' : ℕ) → s ≡ s' → r ≡ r' → heat ≡ pos s' *ℤ booked +ℤ (pos ((m + r) % s) -ℤ pos r')
  split_conserves s' r' e f =
      let sum : heat ≡ pos s *ℤ booked +ℤ (pos ((m + r) % s) -ℤ pos r) = omega (arith, ints, joined, *ℤ_comm (pos s) booked) in
      sum ∙ (λ i. pos (e i) *ℤ booked +ℤ (pos ((m + r) % s) -ℤ pos (f i)))

-- the sum of the two quotients in 64 bits
module _ (s : ℕ) (heat alone : ℤ) (m r : ℕ) (least : 4000 ≤ s) (most : s ≤ 5000) (whole-heat : SFits w64 heat) (held : SFits w64 alone)
    (quotient : alone ≡ int_div_euclid heat (pos s)) (rest : m ≡ nat_abs (int_rem_euclid heat (pos s))) (few : r < 2 ^ 32) where
  small : (m + r) / s < 2 ^ 40
  small = omega (arith, rest, (whole heat s (omega arith)).below, div-le_self (m + r) s)

  bits : to_z w64 (of_z w64 alone) +ℤ to_z w64 ((m + r) / s) ≡ alone +ℤ pos ((m + r) / s)
  bits = λ i. to_z-of_z w64 alone held i +ℤ to_z_pos w64 ((m + r) / s) (omega (arith, small)) i

  sum_fits : SFits w64 (alone +ℤ pos ((m + r) / s))
  sum_fits =
      let bound : nat_abs alone ≤ 2 ^ 52 = subst (λ (z : ℤ). nat_abs z ≤ 2 ^ 52) (sym quotient) (quotient_small heat s least whole-heat) in
      omega (arith, ints, bound, small)

  pub bits_fit : SFits w64 (to_z w64 (of_z w64 alone) +ℤ to_z w64 ((m + r) / s))
  bits_fit = subst (SFits w64) (sym bits) sum_fits

  pub bits_are : to_z w64 (of_z w64 (to_z w64 (of_z w64 alone) +ℤ to_z w64 ((m + r) / s))) ≡ alone +ℤ pos ((m + r) / s)
  bits_are = ap (λ z. to_z w64 (of_z w64 z)) bits ∙ to_z-of_z w64 (alone +ℤ pos ((m + r) / s)) sum_fits
