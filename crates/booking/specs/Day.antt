-- What a day's hours come to.
use Rattle.std.specs.Prelude.{ℕ, Bool, List, sum_by, nat_lt}
use Rattle.std.specs.Option.{unwrap_or}
use Rattle.greatest.specs.Greatest.{first_greatest}
use Rattle.tickets.specs.Words.{field_of}

-- an hour's volume is its word's field
abbrev pub day_volume : List ℕ → ℕ
day_volume hours = sum_by field_of hours

abbrev pub less_gas : ℕ → ℕ → Bool
less_gas hour other = nat_lt (field_of hour) (field_of other)

-- the first of the hours with the greatest volume
abbrev pub peak_hour : List ℕ → ℕ
peak_hour hours = unwrap_or (first_greatest less_gas hours) 0
