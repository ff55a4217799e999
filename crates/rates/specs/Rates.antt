-- Deviation rates as exact fractions, their order, and the instigator.
use Rattle.std.specs.Prelude.{◌≡◌, ℕ, zero, suc, ◌+◌, ◌-◌, ◌*◌, ◌≤◌, Bool, true, false, List, Some, None, Option, ◌==◌, nat_lt}
use Rattle.std.proofs.Common.{arith}
use Rattle.std.specs.declared.cmp.Ordering.{Ordering}
use Rattle.std.specs.Ordering.{is_lt, nat_cmp}
use Rattle.std.specs.Bool.{then_some}
use Rattle.std.specs.List.{All, slice_get}
use Rattle.std.specs.Option.{option_map_or}
use Rattle.greatest.specs.Greatest.{first_greatest, FirstGreatest}
use Rattle.rates.specs.declared.rate.Rate.{Rate}

pub suc_some : (n : ℕ) → 1 ≤ suc n
suc_some n = omega arith

-- |P − D| / P, and 0 where P is 0
abbrev pub rate_of : ℕ → ℕ → Rate
rate_of zero deliveries = record { gap = 0; plan = 1; some = suc_some 0 }
rate_of (suc p) deliveries = record { gap = (suc p - deliveries) + (deliveries - suc p); plan = suc p; some = suc_some p }

-- a numerator over the common denominator of two rates
abbrev pub cross : Rate → Rate → ℕ
cross x y = x.gap * y.plan

abbrev pub rate_order : Rate → Rate → Ordering
rate_order x y = nat_cmp (cross x y) (cross y x)

abbrev pub same_rate : Rate → Rate → Bool
same_rate x y = cross x y == cross y x

abbrev pub lower_rate : Rate → Rate → Bool
lower_rate x y = is_lt (rate_order x y)

-- above a twentieth
abbrev pub passing : Rate → Bool
passing rate = nat_lt rate.plan (20 * rate.gap)

abbrev pub true_at : {X : Type 0} → (X → Bool) → ℕ → List X → Bool
true_at test at xs = option_map_or test (slice_get xs at) false

abbrev pub if_true : {X : Type 0} → (X → Bool) → List X → Option ℕ → Option ℕ
if_true test xs None = None
if_true test xs (Some at) = then_some (true_at test at xs) at

-- the first greatest, if it meets a test
abbrev pub greatest_if : {X : Type 0} → (X → X → Bool) → (X → Bool) → List X → Option ℕ
greatest_if lt test xs = if_true test xs (first_greatest lt xs)

abbrev pub passing_at : ℕ → List Rate → Bool
passing_at at rates = true_at passing at rates

-- the first holder of the greatest rate, if that is above a twentieth
abbrev pub instigator_of : List Rate → Option ℕ
instigator_of rates = greatest_if lower_rate passing rates

-- the same by comparison: where there is none, no rate is above a twentieth; where there is one, its rate is, no other
-- is greater, and each before it is lower
abbrev pub Instigator : List Rate → Option ℕ → Type 0
Instigator rates None = All (λ rate. passing rate ≡ false) rates
Instigator rates (Some at) = (passing_at at rates ≡ true) × FirstGreatest lower_rate rates (Some at)
