use Rattle.std.proofs.Common.{ℕ, Option, unwrap_or, ap, ◌∙◌}
use Rattle.std.specs.Cmp.{nat_cmp_total}
use Rattle.booking.proofs.Peaks.{by_number}
use Rattle.booking.proofs.day.peak_hour.Goals as goal

pub returns : goal.returns
returns c = record {
  value = c.unwrap_or.ensures ∙ ap (λ (o : Option ℕ). unwrap_or o 0) (c.first_greatest.ensures.value nat_cmp_total ∙ by_number c.args.hours.now);
}
