-- Floor division of an integer by a positive number: it is the one quotient whose remainder lies below the divisor.
use Rattle.std.proofs.Common.{◌≡◌, ℕ, ◌+◌, ◌-◌, ◌*◌, ◌/◌, ◌%◌, ◌^◌, ◌<◌, ◌≤◌, ℤ, pos, negsuc, ◌+ℤ◌, ◌*ℤ◌, nat_abs, sym, refl, ap, subst, suc-mul, add-mul, mul-le-mul_left, zero-mul, arith, w64, SFits}
use borrow.Author.Differences.{ints, up, down}
use Rattle.std.proofs.lemmas.Nat.{div-add-mod', div-mul-add, mod-mul-add, mod_below}
use Rattle.std.specs.Int.{int_div_euclid, int_rem_euclid}

-- a product by a natural number, in the two parts of an integer
times : (a : ℤ) (s : ℕ) → up (a *ℤ pos s) + down a * s ≡ down (a *ℤ pos s) + up a * s
times (pos a) s = omega (arith, zero-mul s)
times (negsuc a) s = omega (arith, ints, zero-mul s)

pub over_sum : (a b : ℤ) (s : ℕ) → (a +ℤ b) *ℤ pos s ≡ a *ℤ pos s +ℤ b *ℤ pos s
over_sum a b s =
    let parts : up (a +ℤ b) + (down a + down b) ≡ down (a +ℤ b) + (up a + up b) = omega (arith, ints) in
    let scaled = simp add-mul at (ap (λ (n : ℕ). n * s) parts) in
    omega (arith, ints, scaled, times (a +ℤ b) s, times a s, times b s)

pub record Floors (z : ℤ) (s : ℕ) (q : ℤ) (t : ℕ) : Type 0 where
  pub quotient : int_div_euclid z (pos s) ≡ q
  pub rest : int_rem_euclid z (pos s) ≡ pos t

negative : (n s t : ℕ) → t < s → negsuc n *ℤ pos s +ℤ pos t ≡ negsuc (n * s + (s - 1 - t))
negative n s t h = omega (arith, ints, suc-mul n s)

floors_at : (q : ℤ) (s t : ℕ) → t < s → Floors (q *ℤ pos s +ℤ pos t) s q t
floors_at (pos n) s t h = record {
  quotient = ap pos (div-mul-add n s t h);
  rest = ap pos (mod-mul-add n s t h);
}
floors_at (negsuc n) s t h =
    let small : s - 1 - t < s = omega arith in
    subst (λ z. Floors z s (negsuc n) t) (sym (negative n s t h)) (record {
      quotient = ap negsuc (div-mul-add n s (s - 1 - t) small);
      rest = ap pos (let m = mod-mul-add n s (s - 1 - t) small in omega arith);
    })

pub floors : (z : ℤ) (s : ℕ) (q : ℤ) (t : ℕ) → t < s → z ≡ q *ℤ pos s +ℤ pos t → Floors z s q t
floors z s q t h e = subst (λ y. Floors y s q t) (sym e) (floors_at q s t h)

pub record Whole (z : ℤ) (s : ℕ) : Type 0 where
  pub sum : z ≡ int_div_euclid z (pos s) *ℤ pos s +ℤ int_rem_euclid z (pos s)
  pub natural : int_rem_euclid z (pos s) ≡ pos (nat_abs (int_rem_euclid z (pos s)))
  pub below : nat_abs (int_rem_euclid z (pos s)) < s

pub whole : (z : ℤ) (s : ℕ) → 0 < s → Whole z s
whole (pos a) s h = record { sum = ap pos (sym (div-add-mod' a s)); natural = refl; below = mod_below a s h }
whole (negsuc a) s h =
    let small : a % s < s = mod_below a s h in
    record {
      sum = omega (arith, ints, suc-mul (a / s) s, div-add-mod' a s);
      natural = refl;
      below = omega arith;
    }

pub quotient_small : (z : ℤ) (s : ℕ) → 4000 ≤ s → SFits w64 z → nat_abs (int_div_euclid z (pos s)) ≤ 2 ^ 52
quotient_small (pos a) s h f = omega (arith, f.sfits, mul-le-mul_left (a / s) h, div-add-mod' a s)
quotient_small (negsuc a) s h f = omega (arith, f.sfits, mul-le-mul_left (a / s) h, div-add-mod' a s)
