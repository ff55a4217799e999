-- What a list of words posts: the posting of the ticket that they say, or the refusal that is due.
use Rattle.std.specs.Prelude.{ℕ, ◌*◌, List, pos, ◌*ℤ◌, Result}
use Rattle.std.specs.Result.{result_map_both}
use Rattle.refusals.specs.declared.Refusal.{Refusal}
use Rattle.tickets.specs.Reader.{Told, MeteredTold, PlannedTold, CorrectedTold, reads}
use Rattle.booking.specs.Day.{day_volume, peak_hour}
use Rattle.postings.specs.declared.posting.Posting.{Posting}
use Rattle.postings.specs.declared.posting.Posting.TheVariants.{Metered, Planned, Corrected}

-- a day posts the heat of all its hours, and a correction the heat of its volume
abbrev pub posted : Told → Posting
posted (MeteredTold side shipper day heat hours place) = Metered side shipper (record { 0 = day }) (day_volume hours * heat) (peak_hour hours)
posted (PlannedTold shipper day volume) = Planned shipper (record { 0 = day }) volume
posted (CorrectedTold side shipper month heat volume) = Corrected side shipper (record { 0 = month }) (volume *ℤ pos heat)

abbrev pub posts : List ℕ → Result Posting Refusal
posts words = result_map_both posted (λ refusal. refusal) (reads words)
