use Rattle.std.proofs.Common.{rules}
use Rattle.tickets.proofs.Soundness.{sound_hours}
use Rattle.tickets.proofs.reader.metered.Goals as goal

pub returns-clause-sound : goal.returns-clause-sound
returns-clause-sound c = search (rules, sound_hours)
