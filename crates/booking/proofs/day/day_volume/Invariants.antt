use Rattle.std.proofs.Common.{◌≡◌, ◌*◌, ◌^◌, ◌≤◌, take}
use Rattle.booking.specs.Day.{day_volume}
use Rattle.booking.proofs.day.day_volume.Given as goal

abbrev pub invariant-loop-hour : goal.invariant-loop-hour
invariant-loop-hour l = (l.volume ≡ day_volume (take l.hour-index l.hour-items)) × (l.volume ≤ 2 ^ 28 * l.hour-index)
