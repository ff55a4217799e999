-- A month's imbalances, and how each is divided into gas carried and gas settled.
use Rattle.std.specs.Prelude.{◌≡◌, ℕ, ◌*◌, ◌/◌, ◌≤◌, Bool, false, cond, List, ℤ, pos, negsuc, ◌+ℤ◌, ◌-ℤ◌, neg_ℤ, sum_by, count_by, ◌==◌, nat_lt, unsigned_abs}
use Rattle.std.specs.List.{All}
use Rattle.shares.specs.declared.figures.Figures.{Figures}
use Rattle.shares.specs.Pool.{PoolTold}
use Rattle.shares.specs.declared.pools.Share.{Share}

-- R − D + the carry-over of two months before
abbrev pub imbalance : Figures → ℤ
imbalance f = pos f.receipts -ℤ pos f.deliveries +ℤ f.brought

-- 20 × |imbalance| > R
abbrev pub stirred : Figures → Bool
stirred f = nat_lt f.receipts (20 * unsigned_abs (imbalance f))

abbrev pub of_stirred : (Figures → ℕ) → Figures → ℕ
of_stirred figure f = cond (stirred f) (figure f) 0

abbrev pub pool_of : List Figures → PoolTold
pool_of fs = record {
  count = count_by stirred fs;
  carried = sum_by (of_stirred (λ f. f.receipts / 20)) fs;
  moved = sum_by (of_stirred (λ f. unsigned_abs (imbalance f))) fs;
}

-- in a month with no stirred shipper the whole imbalance; else a twentieth of the receipts where stirred, and where
-- not, the part of the imbalance that the stirred carry of theirs
abbrev pub carry_size : PoolTold → Figures → ℕ
carry_size pool f =
    cond (pool.count == 0) (unsigned_abs (imbalance f))
    (cond (stirred f) (f.receipts / 20) (unsigned_abs (imbalance f) * pool.carried / pool.moved))

-- a size with the sign of another figure
abbrev pub with_sign : ℤ → ℕ → ℤ
with_sign (pos n) size = pos size
with_sign (negsuc n) size = neg_ℤ (pos size)

-- a carry has its imbalance's sign, and settled is what is left
abbrev pub share_of : PoolTold → Figures → Share
share_of pool f = record {
  imbalance = imbalance f;
  carry = with_sign (imbalance f) (carry_size pool f);
  settled = imbalance f -ℤ with_sign (imbalance f) (carry_size pool f);
}

-- ---- what is then true

-- a share's two parts make its imbalance; a carry is at most a twentieth of the receipts, and that of a shipper who is
-- not stirred at most its imbalance
pub record Fair (pool : PoolTold) (f : Figures) : Type 0 where
  pub whole : (share_of pool f).carry +ℤ (share_of pool f).settled ≡ imbalance f
  pub twentieth : 20 * unsigned_abs (share_of pool f).carry ≤ f.receipts
  pub within : stirred f ≡ false → unsigned_abs (share_of pool f).carry ≤ unsigned_abs (imbalance f)

abbrev pub NoneStirred : List Figures → Type 0
NoneStirred fs = All (λ f. stirred f ≡ false) fs

abbrev pub AllCarryAll : PoolTold → List Figures → Type 0
AllCarryAll pool fs = All (λ f. (share_of pool f).carry ≡ imbalance f) fs

abbrev pub AllFair : List Figures → Type 0
AllFair fs = All (Fair (pool_of fs)) fs

-- all carry their whole imbalance exactly when none is stirred
abbrev pub CalmExactly : List Figures → Type 0
CalmExactly fs = (NoneStirred fs → AllCarryAll (pool_of fs) fs) × (AllCarryAll (pool_of fs) fs → NoneStirred fs)
