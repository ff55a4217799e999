-- The heat of a whole day is within its limit.
use Rattle.std.proofs.Common.{ℕ, ◌*◌, ◌≤◌, List, ap, arith}
use Rattle.std.proofs.lemmas.Nat.{mul-le}
use Rattle.std.proofs.lemmas.List.{get_or_default}
use Rattle.std.proofs.lemmas.List.Sums.{sum_by-le}
use Rattle.tickets.specs.Words.{field_of}
use Rattle.tickets.specs.Reader.{SoundHours}
use Rattle.booking.specs.Day.{day_volume}

-- 24 hours of at most 1,000,000 m³
volume_limit : (hours : List ℕ) → SoundHours hours → day_volume hours ≤ 24000000
volume_limit hours sound =
    omega (
      arith,
      sound.count,
      sum_by-le field_of 1000000 hours
          (λ k d h. omega (arith, ap field_of (get_or_default hours k d 0 h), sound.limits k (omega (arith, sound.count)))),
    )

pub day_limit : (hours : List ℕ) (heat : ℕ) → SoundHours hours → heat ≤ 5000 → day_volume hours * heat ≤ 120000000000
day_limit hours heat sound few = mul-le (day_volume hours) heat 24000000 5000 (volume_limit hours sound) few
