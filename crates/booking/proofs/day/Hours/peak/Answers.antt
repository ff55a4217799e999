use Rattle.std.proofs.Common.{◌∙◌, ap}
use Rattle.booking.specs.Day.{peak_hour}
use Rattle.booking.proofs.Peaks.{peak_by_volume}
use Rattle.booking.proofs.day.Hours.peak.Goals as goal

pub returns : goal.returns
returns c = record {
  value = c.peak_hour.ensures.value ∙ peak_by_volume c.self.inside.words.now c.self.invariant ∙ ap peak_hour c.self.view_is;
}
