-- What a board holds by value, and what fixing a price does.
use Rattle.std.specs.Prelude.{ℕ, cond, ◌&&◌, Some, None, Ok, Err, Option, Result, ◌==◌, nat_lt}
use Rattle.refusals.specs.declared.Ground.{Ground}
use Rattle.refusals.specs.declared.Ground.TheVariants.{UnknownShipper, OutsidePeriod, PriceHeld, EvidenceFails}
use Rattle.refusals.specs.declared.Layer.TheVariants.{Board}
use Rattle.refusals.specs.declared.Refusal.{Refusal}
use Rattle.refusals.specs.Grounds.{refusal_at}
use Rattle.prices.specs.Price.{PricesTold}
use Rattle.prices.specs.declared.slot.Slot.{Slot}

abbrev pub on_board : (ground : Ground) → ℕ → Option Refusal
on_board ground place = Some (refusal_at ground Board place)

-- prices that are held come before evidence that does not stand
abbrev pub pair_bar : ℕ → Option PricesTold → Option PricesTold → Option Refusal
pair_bar place (Some held) judged = on_board PriceHeld place
pair_bar place None None = on_board EvidenceFails place
pair_bar place None (Some prices) = None

-- the refusal that is due when prices are to be fixed, of what the pair holds and what the evidence gives
abbrev pub fix_bar : Slot → Option PricesTold → Option PricesTold → Option Refusal
fix_bar slot held judged =
    cond (nat_lt 15 slot.shipper) (on_board UnknownShipper slot.shipper)
    (cond (nat_lt 11 slot.place) (on_board OutsidePeriod slot.place) (pair_bar slot.place held judged))

abbrev pub ruling : Option Refusal → Result (Unit {0}) Refusal
ruling None = Ok tt
ruling (Some refusal) = Err refusal

-- what a pair holds after a fixing that was accepted, or refused
abbrev pub unless_barred : Option Refusal → Option PricesTold → Option PricesTold → Option PricesTold
unless_barred None judged before = judged
unless_barred (Some refusal) judged before = before

-- one pair holds what the evidence gives, and every other what it held before
abbrev pub held_after : Slot → (ℕ → ℕ → Option PricesTold) → Option PricesTold → ℕ → ℕ → Option PricesTold
held_after slot held judged s p =
    cond (s == slot.shipper && p == slot.place)
    (unless_barred (fix_bar slot (held slot.shipper slot.place) judged) judged (held s p))
    (held s p)
