-- What the laws of a rate's comparison rest on: its order is total, since every denominator is above 0.
use Rattle.std.proofs.Common.{◌≡◌, ℕ, ◌*◌, ◌<◌, Less, Equal, sym, ap, ◌∙◌, subst, ⊎_elim, lt_of_mul-lt-mul_right, mul-lt-mul_of_pos_right, mul_right_comm, arith}
use Rattle.std.proofs.lemmas.Bool.{cases_order}
use Rattle.std.proofs.lemmas.Bool.Decides.{nat_tests}
use Rattle.std.proofs.lemmas.Cmp.{nat_cmp_total, eq_by_cmp_equiv}
use Rattle.std.specs.Cmp.{IsTotalOrder, IsEquivalence}
use Rattle.std.specs.Ordering.{nat_cmp, eq_by_cmp}
use Rattle.rates.specs.Rates.{cross, rate_order, same_rate}
use Rattle.rates.specs.declared.rate.Rate.{Rate}

rank_scaled : (a b k : ℕ) → 0 < k → nat_cmp (a * k) (b * k) ≡ nat_cmp a b
rank_scaled a b k h = ⊎_elim
    (λ (e : a ≡ b). let m : a * k ≡ b * k = ap (λ n. n * k) e in grind (arith, nat_tests))
    (⊎_elim (λ (l : a < b). let m = mul-lt-mul_of_pos_right l h in grind (arith, nat_tests)) (λ (l : b < a). let m = mul-lt-mul_of_pos_right l h in grind (arith, nat_tests)))
    (cases_order a b)

pub is_less : (a b : ℕ) → nat_cmp a b ≡ Less → a < b
is_less a b e = grind (arith, nat_tests)

pub less_is : (a b : ℕ) → a < b → nat_cmp a b ≡ Less
less_is a b h = grind (arith, nat_tests)

pub is_equal : (a b : ℕ) → nat_cmp a b ≡ Equal → a ≡ b
is_equal a b e = grind (arith, nat_tests)

pub chain : (x y z : Rate) → cross x y < cross y x → cross y z < cross z y → cross x z < cross z x
chain x y z a b = lt_of_mul-lt-mul_right y.plan (omega (
  arith,
  mul_right_comm x.gap z.plan y.plan,
  mul-lt-mul_of_pos_right a z.some,
  mul_right_comm y.gap x.plan z.plan,
  mul-lt-mul_of_pos_right b x.some,
  mul_right_comm z.gap y.plan x.plan,
))

pub same_by : (x y z : Rate) → cross x y ≡ cross y x → rate_order x z ≡ rate_order y z
same_by x y z e =
    let left : cross x z * y.plan ≡ cross y z * x.plan =
    mul_right_comm x.gap z.plan y.plan ∙ ap (λ n. n * z.plan) e ∙ mul_right_comm y.gap x.plan z.plan in
    let right : cross z x * y.plan ≡ cross z y * x.plan = mul_right_comm z.gap x.plan y.plan in
    sym (rank_scaled (cross x z) (cross z x) y.plan y.some) ∙ (λ i. nat_cmp (left i) (right i))
    ∙ rank_scaled (cross y z) (cross z y) x.plan x.some

pub rates_total : IsTotalOrder rate_order
rates_total = record {
  antisymm = λ x y. nat_cmp_total.antisymm (cross x y) (cross y x);
  trans = λ x y z p q. less_is (cross x z) (cross z x) (chain x y z (is_less (cross x y) (cross y x) p) (is_less (cross y z) (cross z y) q));
  congr = λ x y z p. same_by x y z (is_equal (cross x y) (cross y x) p);
}

-- equal rates are those that the order does not tell apart
pub same_tied : (x y : Rate) → same_rate x y ≡ eq_by_cmp rate_order x y
same_tied x y = grind (arith, nat_tests)

pub rates_same : IsEquivalence same_rate
rates_same =
    let same : eq_by_cmp rate_order ≡ same_rate = λ i x y. sym (same_tied x y) i in
    subst IsEquivalence same (eq_by_cmp_equiv rates_total)
