-- A shipper's account by value, and what each call makes of it.
use Rattle.std.specs.Prelude.{ℕ, ◌+◌, ◌^◌, Bool, true, false, cond, ◌&&◌, ◌||◌, List, replicate, ℤ, pos, ◌+ℤ◌, neg_ℤ, Some, None, Option, nat_le, nat_lt, slice_set, unsigned_abs}
use Rattle.sides.specs.declared.Side.{Side}
use Rattle.sides.specs.declared.Side.TheVariants.{Receipts, Deliveries}
use Rattle.sides.specs.declared.Pair.{Pair}
use Rattle.sides.specs.Sides.{side_of, with_side}
use Rattle.sides.specs.Days.{taken, all_marked}
use Rattle.heat.specs.declared.split.Split.{Split}
use Rattle.heat.specs.Split.{split_of}
use Rattle.shares.specs.declared.figures.Figures.{Figures}
use Rattle.settlement.specs.Settlement.{yen_of}
use Rattle.statement.specs.declared.line.Line.{Line}
use Rattle.accounts.specs.Told.{AccountTold}
use Rattle.accounts.specs.declared.settled.Correction.{Correction}

abbrev pub twice : {T : Type 0} → T → Pair T
twice value = record { receipts = value; deliveries = value }

-- a month with no days in
abbrev pub no_days : List Bool
no_days = replicate 31 false

-- ---- the opening

-- a carry-over is from −46,500,000 to 46,500,000
abbrev pub carry_allowed : ℤ → Bool
carry_allowed carry = nat_le (unsigned_abs carry) 46500000

abbrev pub opened : ℤ → ℤ → AccountTold
opened older newer = record {
  remainders = twice 0;
  volumes = twice 0;
  metered = twice no_days;
  plan = 0;
  planned = no_days;
  older = older;
  newer = newer;
  settled = pos 0;
  yen = pos 0;
}

-- an account that nothing has reached
abbrev pub blank : AccountTold
blank = opened (pos 0) (pos 0)

-- a carry-over within its limits
abbrev pub allowed : ℤ → Option ℤ
allowed carry = cond (carry_allowed carry) (Some carry) None

abbrev pub opened_if : ℤ → ℤ → Option AccountTold
opened_if older newer = cond (carry_allowed older && carry_allowed newer) (Some (opened older newer)) None

-- ---- a day's metered gas

-- heat with the remainder of its side
abbrev pub split : ℕ → Side → ℤ → AccountTold → Split ℤ
split standard side heat a = split_of standard heat (side_of side a.remainders)

abbrev pub with_day : ℕ → Side → ℕ → ℕ → AccountTold → AccountTold
with_day standard side place heat a = record {
  remainders = with_side side a.remainders (split standard side (pos heat) a).remainder;
  volumes = with_side side a.volumes (side_of side a.volumes + unsigned_abs (split standard side (pos heat) a).booked);
  metered = with_side side a.metered (slice_set (side_of side a.metered) place true);
  plan = a.plan;
  planned = a.planned;
  older = a.older;
  newer = a.newer;
  settled = a.settled;
  yen = a.yen;
}

-- the booked volume, unless the day's ticket is in
abbrev pub day_booked : ℕ → Side → ℕ → ℕ → AccountTold → Option ℤ
day_booked standard side place heat a =
    cond (taken place (side_of side a.metered)) None (Some (split standard side (pos heat) a).booked)

abbrev pub after_day : ℕ → Side → ℕ → ℕ → AccountTold → AccountTold
after_day standard side place heat a = cond (taken place (side_of side a.metered)) a (with_day standard side place heat a)

-- ---- a day's plan

abbrev pub with_plan : ℕ → ℕ → AccountTold → AccountTold
with_plan place volume a = record {
  remainders = a.remainders;
  volumes = a.volumes;
  metered = a.metered;
  plan = a.plan + volume;
  planned = slice_set a.planned place true;
  older = a.older;
  newer = a.newer;
  settled = a.settled;
  yen = a.yen;
}

-- the plan's volume, unless the day's plan is in
abbrev pub plan_answered : ℕ → ℕ → AccountTold → Option ℕ
plan_answered place volume a = cond (taken place a.planned) None (Some volume)

abbrev pub after_plan : ℕ → ℕ → AccountTold → AccountTold
after_plan place volume a = cond (taken place a.planned) a (with_plan place volume a)

-- ---- the month

-- R, D, P and the carry-over of two months before
abbrev pub figures_told : AccountTold → Figures
figures_told a = record {
  receipts = a.volumes.receipts;
  deliveries = a.volumes.deliveries;
  plan = a.plan;
  brought = a.older;
}

-- every day of the month has its three tickets
abbrev pub all_in : ℕ → AccountTold → Bool
all_in days a = all_marked days a.metered.receipts && all_marked days a.metered.deliveries && all_marked days a.planned

-- ---- what is settled

abbrev pub passes : ℕ → ℤ → Bool
passes most figure = nat_lt most (unsigned_abs figure)

-- the sum of two figures, unless it passes a limit, either sign
abbrev pub sum_if : ℕ → ℤ → ℤ → Option ℤ
sum_if most a b = cond (passes most (a +ℤ b)) None (Some (a +ℤ b))

-- a correction's volume: deliveries count against the shipper
abbrev pub corrected_by : Side → ℤ → ℤ
corrected_by Receipts booked = booked
corrected_by Deliveries booked = neg_ℤ booked

-- what a booked correction settles at a price
abbrev pub correction_at : Side → ℤ → ℕ → Correction
correction_at side booked price = record { volume = corrected_by side booked; yen = yen_of (corrected_by side booked) price }

abbrev pub correction_of : ℕ → Side → ℤ → ℕ → AccountTold → Correction
correction_of standard side heat price a = correction_at side (split standard side heat a).booked price

-- the settled volume would pass 10^12 m³, or the account 10^15 yen
abbrev pub over_by : ℤ → ℤ → AccountTold → Bool
over_by settled yen a = passes (10 ^ 12) (a.settled +ℤ settled) || passes (10 ^ 15) (a.yen +ℤ yen)

-- an account with these sums
abbrev pub with_sums : ℤ → ℤ → AccountTold → AccountTold
with_sums settled yen a = record {
  remainders = a.remainders;
  volumes = a.volumes;
  metered = a.metered;
  plan = a.plan;
  planned = a.planned;
  older = a.older;
  newer = a.newer;
  settled = settled;
  yen = yen;
}

-- an account that has taken up a volume and yen
abbrev pub settling : ℤ → ℤ → AccountTold → AccountTold
settling volume yen a = with_sums (a.settled +ℤ volume) (a.yen +ℤ yen) a

abbrev pub settled_if : ℤ → ℤ → AccountTold → Option AccountTold
settled_if volume yen a = cond (over_by volume yen a) None (Some (settling volume yen a))

abbrev pub with_correction : ℕ → Side → ℤ → Correction → AccountTold → AccountTold
with_correction standard side heat correction a = record {
  remainders = with_side side a.remainders (split standard side heat a).remainder;
  volumes = a.volumes;
  metered = a.metered;
  plan = a.plan;
  planned = a.planned;
  older = a.older;
  newer = a.newer;
  settled = a.settled +ℤ correction.volume;
  yen = a.yen +ℤ correction.yen;
}

abbrev pub corrected : ℕ → Side → ℤ → ℕ → AccountTold → Option Correction
corrected standard side heat price a =
    cond (over_by (correction_of standard side heat price a).volume (correction_of standard side heat price a).yen a) None
    (Some (correction_of standard side heat price a))

abbrev pub after_correction : ℕ → Side → ℤ → ℕ → AccountTold → AccountTold
after_correction standard side heat price a =
    cond (over_by (correction_of standard side heat price a).volume (correction_of standard side heat price a).yen a) a
    (with_correction standard side heat (correction_of standard side heat price a) a)

-- ---- the month issued

-- the line's volume and yen are booked, its carry becomes the newer, and the next month starts with no days in
abbrev pub with_line : Line → AccountTold → AccountTold
with_line line a = record {
  remainders = a.remainders;
  volumes = twice 0;
  metered = twice no_days;
  plan = 0;
  planned = no_days;
  older = a.newer;
  newer = line.carry;
  settled = a.settled +ℤ line.settled;
  yen = a.yen +ℤ line.yen;
}

abbrev pub issued_if : Line → AccountTold → Option AccountTold
issued_if line a = cond (over_by line.settled line.yen a) None (Some (with_line line a))
