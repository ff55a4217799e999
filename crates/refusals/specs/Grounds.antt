-- The number of each ground in the rules, and a refusal's text.
use Rattle.std.specs.Prelude.{ℕ, List, ◌++◌, codes, decimal}
use Rattle.refusals.specs.declared.Ground.{Ground}
use Rattle.refusals.specs.declared.Ground.TheVariants.{BlankBook, AlreadyOpened, DraftOut, TicketLength, WordKind, FigureLimits, UnknownShipper, OutsidePeriod, TicketRepeated, PriceHeld, EvidenceFails, YearComplete, SheetShort, TicketMissing, PriceMissing, AccountLimit, StrayDraft}
use Rattle.refusals.specs.declared.Layer.{Layer}
use Rattle.refusals.specs.declared.Layer.TheVariants.{Words, Board, Sheet, Book}
use Rattle.refusals.specs.declared.Refusal.{Refusal}

abbrev pub ground_number : Ground → ℕ
ground_number BlankBook = 1
ground_number AlreadyOpened = 2
ground_number DraftOut = 3
ground_number TicketLength = 4
ground_number WordKind = 5
ground_number FigureLimits = 6
ground_number UnknownShipper = 7
ground_number OutsidePeriod = 8
ground_number TicketRepeated = 9
ground_number PriceHeld = 10
ground_number EvidenceFails = 11
ground_number YearComplete = 12
ground_number SheetShort = 13
ground_number TicketMissing = 14
ground_number PriceMissing = 15
ground_number AccountLimit = 16
ground_number StrayDraft = 17

abbrev pub layer_name : Layer → List ℕ
layer_name Words = codes "words"
layer_name Board = codes "board"
layer_name Sheet = codes "sheet"
layer_name Book = codes "book"

-- a refusal of its three parts
abbrev pub refusal_at : (ground : Ground) → Layer → ℕ → Refusal
refusal_at ground layer place = record { ground = ground; layer = layer; place = place }

-- `refused`, the number, the layer and the place, with one space between
abbrev pub refusal_text : Refusal → List ℕ
refusal_text refusal =
    codes "refused "
    ++ (decimal (ground_number refusal.ground)
    ++ (codes " " ++ (layer_name refusal.layer ++ (codes " " ++ decimal refusal.place))))
