-- What the intake answers to a read ticket, and the remainders that it keeps then.
use Rattle.std.specs.Prelude.{ℕ, ◌*◌, List, ◌++◌, ℤ, pos, ◌*ℤ◌, Ok, Err, codes, decimal, Result, slice_index_or, slice_set}
use Rattle.std.specs.Fmt.{signed_decimal}
use Rattle.refusals.specs.declared.Refusal.{Refusal}
use Rattle.sides.specs.declared.Side.{Side}
use Rattle.sides.specs.declared.Pair.{Pair}
use Rattle.sides.specs.Sides.{side_of, with_side}
use Rattle.heat.specs.Split.{split_of}
use Rattle.heat.specs.declared.split.Split.{Split}
use Rattle.tickets.specs.Reader.{Told, MeteredTold, PlannedTold, CorrectedTold}
use Rattle.booking.specs.Day.{day_volume, peak_hour}
use Rattle.booking.specs.declared.intake.Booking.{Booking}
use Rattle.booking.specs.declared.intake.Booking.TheVariants.{Metered, Planned, Corrected}

abbrev pub no_remainder : Pair ℕ
no_remainder = record { receipts = 0; deliveries = 0 }

abbrev pub remainders_of : List (Pair ℕ) → ℕ → Pair ℕ
remainders_of all shipper = slice_index_or all shipper no_remainder

-- heat booked with the remainder of its shipper and side
abbrev pub booked : ℕ → List (Pair ℕ) → Side → ℕ → ℤ → Split ℤ
booked standard all side shipper heat = split_of standard heat (side_of side (remainders_of all shipper))

-- the new remainder, in its place
abbrev pub kept_on : ℕ → List (Pair ℕ) → Side → ℕ → ℤ → List (Pair ℕ)
kept_on standard all side shipper heat =
    slice_set all shipper (with_side side (remainders_of all shipper) (booked standard all side shipper heat).remainder)

abbrev pub answer : ℕ → List (Pair ℕ) → Told → Booking
answer standard all (MeteredTold side shipper day heat hours place) =
    Metered (booked standard all side shipper (pos (day_volume hours * heat))).booked (peak_hour hours)
answer standard all (PlannedTold shipper day volume) = Planned volume
answer standard all (CorrectedTold side shipper month heat volume) =
    Corrected (booked standard all side shipper (volume *ℤ pos heat)).booked

abbrev pub answered : ℕ → List (Pair ℕ) → Result Told Refusal → Result Booking Refusal
answered standard all (Ok ticket) = Ok (answer standard all ticket)
answered standard all (Err refusal) = Err refusal

abbrev pub kept_by : ℕ → List (Pair ℕ) → Told → List (Pair ℕ)
kept_by standard all (MeteredTold side shipper day heat hours place) =
    kept_on standard all side shipper (pos (day_volume hours * heat))
kept_by standard all (PlannedTold shipper day volume) = all
kept_by standard all (CorrectedTold side shipper month heat volume) = kept_on standard all side shipper (volume *ℤ pos heat)

abbrev pub kept : ℕ → List (Pair ℕ) → Result Told Refusal → List (Pair ℕ)
kept standard all (Ok ticket) = kept_by standard all ticket
kept standard all (Err refusal) = all

abbrev pub booking_text : Booking → List ℕ
booking_text (Metered volume peak) = codes "booked " ++ (signed_decimal volume ++ (codes " peak " ++ decimal peak))
booking_text (Planned volume) = codes "planned " ++ decimal volume
booking_text (Corrected volume) = codes "corrected " ++ signed_decimal volume
