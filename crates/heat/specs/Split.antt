-- Heat into volume: floor division by the standard heat, with the remainder kept.
use Rattle.std.specs.Prelude.{ℕ, cond, ◌&&◌, List, [], ◌∷◌, ℤ, pos, ◌+ℤ◌, Some, None, Option, nat_le, unsigned_abs}
use Rattle.std.specs.Int.{int_div_euclid, int_rem_euclid}
use Rattle.heat.specs.declared.split.Split.{Split}

-- a standard heat exists from 4,000 to 5,000 units of 10 kJ per m³
abbrev pub standard_units : ℕ → Option ℕ
standard_units units = cond (nat_le 4000 units && nat_le units 5000) (Some units) None

-- (heat + remainder) ÷ standard heat, rounded down below zero as well, and what is left
abbrev pub split_of : ℕ → ℤ → ℕ → Split ℤ
split_of standard heat remainder = record {
  booked = int_div_euclid (heat +ℤ pos remainder) (pos standard);
  remainder = unsigned_abs (int_rem_euclid (heat +ℤ pos remainder) (pos standard));
}

-- a run of bookings: the volumes add up, and each booking takes the remainder that the one before it left
abbrev pub run_of : ℕ → List ℤ → ℕ → Split ℤ
run_of standard [] remainder = record { booked = pos 0; remainder = remainder }
run_of standard (heat ∷ heats) remainder = record {
  booked = (split_of standard heat remainder).booked +ℤ (run_of standard heats (split_of standard heat remainder).remainder).booked;
  remainder = (run_of standard heats (split_of standard heat remainder).remainder).remainder;
}

abbrev pub total : List ℤ → ℤ
total [] = pos 0
total (heat ∷ heats) = heat +ℤ total heats

-- the whole heat of a run, divided once
abbrev pub whole_run : ℕ → List ℤ → ℕ → Split ℤ
whole_run standard heats remainder = split_of standard (total heats) remainder
