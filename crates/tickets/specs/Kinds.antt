-- The kinds of tickets and of body words with their numbers, and the figures with their places and limits.
use Rattle.std.specs.Prelude.{ℕ, Bool, cond, not, ◌&&◌, Some, None, Option, ◌==◌, nat_le, unsigned_abs}
use Rattle.tickets.specs.Words.{kind_of, field_of, signed_of}
use Rattle.tickets.specs.declared.kind.TicketKind.{TicketKind}
use Rattle.tickets.specs.declared.kind.TicketKind.TheVariants.{Receipts, Deliveries, Plan, ReceiptsCorrection, DeliveriesCorrection}
use Rattle.tickets.specs.declared.kind.BodyKind.{BodyKind}
use Rattle.tickets.specs.declared.kind.BodyKind.TheVariants.{Heat, Volume, SignedVolume}
use Rattle.tickets.specs.declared.kind.Figure.{Figure}
use Rattle.tickets.specs.declared.kind.Figure.TheVariants.{GasHeat, HourVolume, PlanVolume, CorrectionVolume}

abbrev pub ticket_number : TicketKind → ℕ
ticket_number Receipts = 1
ticket_number Deliveries = 2
ticket_number Plan = 3
ticket_number ReceiptsCorrection = 4
ticket_number DeliveriesCorrection = 5

abbrev pub body_number : BodyKind → ℕ
body_number Heat = 8
body_number Volume = 9
body_number SignedVolume = 10

abbrev kind_among : ℕ → TicketKind → Option TicketKind → Option TicketKind
kind_among number kind others = cond (number == ticket_number kind) (Some kind) others

-- the kind whose number a header word has in its top bits
abbrev pub ticket_kind : ℕ → Option TicketKind
ticket_kind header =
    kind_among (kind_of header) Receipts (kind_among (kind_of header) Deliveries (kind_among (kind_of header) Plan
    (kind_among (kind_of header) ReceiptsCorrection (kind_among (kind_of header) DeliveriesCorrection None))))

-- words of a ticket, the header among them
abbrev pub ticket_length : TicketKind → ℕ
ticket_length Receipts = 26
ticket_length Deliveries = 26
ticket_length Plan = 2
ticket_length ReceiptsCorrection = 3
ticket_length DeliveriesCorrection = 3

-- what the word at an index past the header stands for
abbrev pub figure_at : TicketKind → ℕ → Figure
figure_at Receipts index = cond (index == 1) GasHeat HourVolume
figure_at Deliveries index = cond (index == 1) GasHeat HourVolume
figure_at Plan index = PlanVolume
figure_at ReceiptsCorrection index = cond (index == 1) GasHeat CorrectionVolume
figure_at DeliveriesCorrection index = cond (index == 1) GasHeat CorrectionVolume

abbrev pub body_kind : Figure → BodyKind
body_kind GasHeat = Heat
body_kind HourVolume = Volume
body_kind PlanVolume = Volume
body_kind CorrectionVolume = SignedVolume

-- heat 4,000 to 5,000; an hour to 1,000,000; a plan to 24,000,000; a correction to 24,000,000 either way, and not 0
abbrev pub within : Figure → ℕ → Bool
within GasHeat word = nat_le 4000 (field_of word) && nat_le (field_of word) 5000
within HourVolume word = nat_le (field_of word) 1000000
within PlanVolume word = nat_le (field_of word) 24000000
within CorrectionVolume word = not (unsigned_abs (signed_of word) == 0) && nat_le (unsigned_abs (signed_of word)) 24000000
