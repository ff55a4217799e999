-- The laws of a month's shares, of the definitions alone.
use Rattle.std.proofs.Common.{◌≡◌, ℕ, zero, suc, ◌*◌, ◌/◌, ◌<◌, ◌≤◌, Bool, true, false, cond, eqb, List, length, get_or, ℤ, pos, negsuc, ◌+ℤ◌, nat_abs, count_by, sym, refl, ap, ◌∙◌, subst, ⊎_elim, true≢false, arith, ltb, ltb-false, ltb-true, eq-eqb, eqb-true}
use borrow.Author.Differences.{ints}
use borrow.Author.Tests.{eqb-false}
use Rattle.std.proofs.lemmas.Bool.{cases_Bool, cond-true, cond-false}
use Rattle.std.proofs.lemmas.Bool.Decides.{nat_tests}
use Rattle.std.proofs.lemmas.List.Sums.{sum_by-le, sum_by-le-sum_by, get_or-le-sum_by}
use Rattle.shares.specs.Month.{imbalance, stirred, pool_of, carry_size, with_sign, share_of, Fair, NoneStirred, AllCarryAll, AllFair, CalmExactly}
use Rattle.shares.specs.Pool.{PoolTold}
use Rattle.shares.specs.declared.figures.Figures.{Figures}
use Rattle.shares.proofs.Parts.{part_le}

size_of : (z : ℤ) (n : ℕ) → nat_abs (with_sign z n) ≡ n
size_of (pos m) n = refl
size_of (negsuc m) zero = refl
size_of (negsuc m) (suc n) = refl

sign_whole : (z : ℤ) → with_sign z (nat_abs z) ≡ z
sign_whole (pos n) = refl
sign_whole (negsuc n) = refl

abbrev tally : Bool → ℕ
tally b = cond b 1 0

tally_none : (b : Bool) → tally b ≤ 0 → b ≡ false
tally_none true h = absurd (omega arith)
tally_none false h = refl

-- none is counted exactly where none is stirred
none_counted : (fs : List Figures) → NoneStirred fs → count_by stirred fs ≡ 0
none_counted fs none =
    let each = λ (k : ℕ) (d : Figures) (h : k < length fs). ap tally (none k d h) in
    omega (arith, sum_by-le (λ f. tally (stirred f)) 0 fs (λ k d h. omega (arith, each k d h)))

none_stirred : (fs : List Figures) → count_by stirred fs ≡ 0 → NoneStirred fs
none_stirred fs e k d h =
    tally_none (stirred (get_or fs k d)) (omega (arith, e, get_or-le-sum_by (λ f. tally (stirred f)) fs k d h))

module _ (pool : PoolTold) (f : Figures) where
  abbrev size : ℕ
  size = nat_abs (imbalance f)

  whole_is : (share_of pool f).carry +ℤ (share_of pool f).settled ≡ imbalance f
  whole_is = omega (arith, ints)

  calm_size : eqb pool.count 0 ≡ true → carry_size pool f ≡ size
  calm_size e = cond-true _ _ _ e

  stirred_size : eqb pool.count 0 ≡ false → stirred f ≡ true → carry_size pool f ≡ f.receipts / 20
  stirred_size e t = cond-false _ _ _ e ∙ cond-true _ _ _ t

  other_size : eqb pool.count 0 ≡ false → stirred f ≡ false → carry_size pool f ≡ size * pool.carried / pool.moved
  other_size e t = cond-false _ _ _ e ∙ cond-false _ _ _ t

  fair_of : (20 * carry_size pool f ≤ f.receipts) → (stirred f ≡ false → carry_size pool f ≤ size) → Fair pool f
  fair_of p q = record {
    whole = whole_is;
    twentieth = subst (λ (n : ℕ). 20 * n ≤ f.receipts) (sym (size_of (imbalance f) (carry_size pool f))) p;
    within = λ t. subst (λ (n : ℕ). n ≤ size) (sym (size_of (imbalance f) (carry_size pool f))) (q t);
  }

  fair_calm : eqb pool.count 0 ≡ true → stirred f ≡ false → Fair pool f
  fair_calm e t = fair_of (omega (arith, calm_size e, ltb-false f.receipts (20 * size) t)) (λ _. omega (arith, calm_size e))

  carries_whole : eqb pool.count 0 ≡ true → (share_of pool f).carry ≡ imbalance f
  carries_whole e = ap (with_sign (imbalance f)) (calm_size e) ∙ sign_whole (imbalance f)

  module _ (e : eqb pool.count 0 ≡ false) (less : pool.carried ≤ pool.moved) (some : pool.count ≤ pool.moved) where
    moved_some : 0 < pool.moved
    moved_some = omega (arith, some, eqb-false pool.count 0 e)

    fair_moved : Fair pool f
    fair_moved = ⊎_elim
        (λ (t : stirred f ≡ true). fair_of (omega (arith, stirred_size e t)) (λ u. absurd (true≢false (sym t ∙ u))))
        (λ (t : stirred f ≡ false).
        let part = part_le size pool.carried pool.moved less moved_some in
        fair_of (omega (arith, other_size e t, ltb-false f.receipts (20 * size) t, part)) (λ _. omega (arith, other_size e t, part)))
        (cases_Bool (stirred f))

    whole_only_calm : (share_of pool f).carry ≡ imbalance f → stirred f ≡ false
    whole_only_calm whole = ⊎_elim
        (λ (t : stirred f ≡ true).
        let all : carry_size pool f ≡ size = sym (size_of (imbalance f) (carry_size pool f)) ∙ ap nat_abs whole in
        absurd (omega (arith, all, stirred_size e t, ltb-true f.receipts (20 * size) t)))
        (λ (t : stirred f ≡ false). t) (cases_Bool (stirred f))

-- what passes a twentieth of the receipts is 1 m³ or more, and more than that twentieth
moves_some : (r m : ℕ) → cond (ltb r (20 * m)) 1 0 ≤ cond (ltb r (20 * m)) m 0
moves_some r m = grind (arith, nat_tests)

moves_more : (r m : ℕ) → cond (ltb r (20 * m)) (r / 20) 0 ≤ cond (ltb r (20 * m)) m 0
moves_more r m = grind (arith, nat_tests)

module _ (fs : List Figures) where
  abbrev pool : PoolTold
  pool = pool_of fs

  pub some : pool.count ≤ pool.moved
  some = sum_by-le-sum_by _ _ fs (λ f. moves_some f.receipts (nat_abs (imbalance f)))

  pub less : pool.carried ≤ pool.moved
  less = sum_by-le-sum_by _ _ fs (λ f. moves_more f.receipts (nat_abs (imbalance f)))

  pub all_fair : AllFair fs
  all_fair k d h = ⊎_elim
      (λ (e : eqb pool.count 0 ≡ true). fair_calm pool (get_or fs k d) e (none_stirred fs (eqb-true pool.count 0 e) k d h))
      (λ (e : eqb pool.count 0 ≡ false). fair_moved pool (get_or fs k d) e less some)
      (cases_Bool (eqb pool.count 0))

  carries_calm : AllCarryAll pool fs → NoneStirred fs
  carries_calm all k d h = ⊎_elim
      (λ (e : eqb pool.count 0 ≡ true). none_stirred fs (eqb-true pool.count 0 e) k d h)
      (λ (e : eqb pool.count 0 ≡ false). whole_only_calm pool (get_or fs k d) e less some (all k d h))
      (cases_Bool (eqb pool.count 0))

  pub calm_exactly : CalmExactly fs
  calm_exactly = (λ none k d h. carries_whole pool (get_or fs k d) (eq-eqb pool.count 0 (none_counted fs none)), carries_calm)
