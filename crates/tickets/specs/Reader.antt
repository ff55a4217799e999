-- What a list of words says: a ticket, or the refusal that is due.
use Rattle.std.specs.Prelude.{◌≡◌, ℕ, ◌<◌, ◌≤◌, Bool, true, cond, List, length, take, drop, ℤ, Some, None, Ok, Err, Option, Result, ◌==◌, slice_index, not, unsigned_abs}
use Rattle.std.specs.Result.{result_map_both}
use Rattle.std.specs.List.{position_from, enumerate_from}
use Rattle.refusals.specs.Grounds.{refusal_at}
use Rattle.refusals.specs.declared.Ground.{Ground}
use Rattle.refusals.specs.declared.Ground.TheVariants.{TicketLength, WordKind, FigureLimits}
use Rattle.refusals.specs.declared.Layer.TheVariants.{Words}
use Rattle.refusals.specs.declared.Refusal.{Refusal}
use Rattle.sides.specs.declared.Side.{Side}
use Rattle.sides.specs.declared.Side.TheVariants as S
use Rattle.tickets.specs.Words.{kind_of, shipper_of, reserved_of, date_of, field_of, signed_of}
use Rattle.tickets.specs.Kinds.{ticket_kind, ticket_length, figure_at, body_kind, body_number, within}
use Rattle.tickets.specs.declared.kind.BodyKind.TheVariants.{Volume}
use Rattle.tickets.specs.declared.kind.TicketKind.{TicketKind}
use Rattle.tickets.specs.declared.kind.TicketKind.TheVariants as K
use Rattle.tickets.specs.declared.reader.Ticket.{Ticket}
use Rattle.tickets.specs.declared.reader.Ticket.TheVariants as T

-- a ticket with its figures by value: of borrowed hours, the words that they hold and where they lie
pub data Told : Type 0 where
  MeteredTold : (side : Side) (shipper day heat : ℕ) (hours : List ℕ) (place : ℕ) → Told
  PlannedTold : (shipper day volume : ℕ) → Told
  CorrectedTold : (side : Side) (shipper month heat : ℕ) (volume : ℤ) → Told

abbrev pub ticket_told : Ticket → Told
ticket_told (T.Metered side shipper day heat hours place) = MeteredTold side shipper day.0 heat hours.now place
ticket_told (T.Planned shipper day volume) = PlannedTold shipper day.0 volume
ticket_told (T.Corrected side shipper month heat volume) = CorrectedTold side shipper month.0 heat volume

abbrev pub outcome : Result Ticket Refusal → Result Told Refusal
outcome answer = result_map_both ticket_told (λ refusal. refusal) answer

-- ---- what the words of each kind say

abbrev pub metered_told : Side → List ℕ → Told
metered_told side words =
    MeteredTold side (shipper_of (slice_index words 0)) (date_of (slice_index words 0)) (field_of (slice_index words 1))
    (take 24 (drop 2 words)) 2

abbrev pub planned_told : List ℕ → Told
planned_told words = PlannedTold (shipper_of (slice_index words 0)) (date_of (slice_index words 0)) (field_of (slice_index words 1))

abbrev pub corrected_told : Side → List ℕ → Told
corrected_told side words =
    CorrectedTold side (shipper_of (slice_index words 0)) (date_of (slice_index words 0)) (field_of (slice_index words 1))
    (signed_of (slice_index words 2))

abbrev pub told : TicketKind → List ℕ → Told
told K.Receipts words = metered_told S.Receipts words
told K.Deliveries words = metered_told S.Deliveries words
told K.Plan words = planned_told words
told K.ReceiptsCorrection words = corrected_told S.Receipts words
told K.DeliveriesCorrection words = corrected_told S.Deliveries words

-- ---- what is wrong with them

-- the first index whose word does not pass
abbrev pub first_not : (ℕ → ℕ → Bool) → List ℕ → Option ℕ
first_not passes words = position_from (λ place. not (passes place.0 place.1)) 0 (enumerate_from 0 words)

-- a header has its reserved bits zero, and a body word the kind of what it stands for
abbrev pub shaped : TicketKind → ℕ → ℕ → Bool
shaped kind i word = cond (i == 0) (reserved_of word == 0) (kind_of word == body_number (body_kind (figure_at kind i)))

-- a body word has a figure within its limits
abbrev pub allowed : TicketKind → ℕ → ℕ → Bool
allowed kind i word = cond (i == 0) true (within (figure_at kind i) word)

abbrev pub refused_at : (ground : Ground) → ℕ → Result Told Refusal
refused_at ground place = Err (refusal_at ground Words place)

-- wrong kinds and bits come before figures outside their limits
abbrev pub judged : Option ℕ → Option ℕ → Told → Result Told Refusal
judged (Some misshapen) outside ticket = refused_at WordKind misshapen
judged None (Some outside) ticket = refused_at FigureLimits outside
judged None None ticket = Ok ticket

abbrev pub reads_as : Option TicketKind → List ℕ → Result Told Refusal
reads_as None words = refused_at WordKind 0
reads_as (Some kind) words =
    cond (length words == ticket_length kind)
    (judged (first_not (shaped kind) words) (first_not (allowed kind) words) (told kind words))
    (refused_at TicketLength (length words))

abbrev pub reads : List ℕ → Result Told Refusal
reads words = cond (length words == 0) (refused_at TicketLength 0) (reads_as (ticket_kind (slice_index words 0)) words)

-- ---- what is then true of a ticket that was read

-- 24 hour words, each of the volume kind and within an hour's limit
pub record SoundHours (hours : List ℕ) : Type 0 where
  pub count : length hours ≡ 24
  pub kinds : (k : ℕ) → k < 24 → kind_of (slice_index hours k) ≡ body_number Volume
  pub limits : (k : ℕ) → k < 24 → field_of (slice_index hours k) ≤ 1000000

abbrev pub Sound : Told → Type 0
Sound (MeteredTold side shipper day heat hours place) = SoundHours hours × (4000 ≤ heat) × (heat ≤ 5000) × (shipper < 16)
Sound (PlannedTold shipper day volume) = (volume ≤ 24000000) × (shipper < 16)
Sound (CorrectedTold side shipper month heat volume) =
    (unsigned_abs volume ≤ 24000000) × (0 < unsigned_abs volume) × (4000 ≤ heat) × (heat ≤ 5000) × (shipper < 16)
