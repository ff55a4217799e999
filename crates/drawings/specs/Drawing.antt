-- A month drawn from accounts.
use Rattle.refusals.specs.Grounds.{refusal_at}
use Rattle.std.specs.Prelude.{ℕ, ◌+◌, cond, List, [], ◌∷◌, length, Some, None, Ok, Err, Option, Result, nat_lt, slice_index_or}
use Rattle.std.specs.Result.{result_map_both}
use Rattle.refusals.specs.declared.Ground.TheVariants.{SheetShort, TicketMissing, PriceMissing, AccountLimit}
use Rattle.refusals.specs.declared.Layer.TheVariants.{Board, Sheet, Book}
use Rattle.refusals.specs.declared.Refusal.{Refusal}
use Rattle.prices.specs.Price.{PricesTold}
use Rattle.accounts.specs.Told.{AccountTold}
use Rattle.accounts.specs.Accounts.{figures_told, issued_if}
use Rattle.statement.specs.declared.line.Line.{Line}
use Rattle.statement.specs.declared.month.Entry.{Entry}
use Rattle.statement.specs.Statement.{no_line, statement_of, sheet_after}
use Rattle.rolls.specs.Rolls.{lacking}

-- ---- one answer for each

abbrev pub before : {Y : Type 0} → Result Y Refusal → Result (List Y) Refusal → Result (List Y) Refusal
before (Ok y) rest = result_map_both (λ ys. y ∷ ys) (λ refusal. refusal) rest
before (Err refusal) rest = Err refusal

-- what each item of a list is answered, by its number from n on; or the refusal of the lowest that is refused
abbrev pub each : {X Y : Type 0} → (ℕ → X → Result Y Refusal) → ℕ → List X → Result (List Y) Refusal
each answer n [] = Ok []
each answer n (x ∷ xs) = before (answer n x) (each answer (n + 1) xs)

-- ---- prices

-- a shipper's figures with its prices, if they are held
abbrev pub priced : ℕ → Option PricesTold → AccountTold → Result Entry Refusal
priced shipper None account = Err (refusal_at PriceMissing Board shipper)
priced shipper (Some prices) account = Ok (record { figures = figures_told account; prices = prices })

abbrev pub priced_at : (ℕ → ℕ → Option PricesTold) → ℕ → ℕ → AccountTold → Result Entry Refusal
priced_at held place shipper account = priced shipper (held shipper place) account

-- the month of these accounts, at the prices held for a place in the year
abbrev pub priced_month : (ℕ → ℕ → Option PricesTold) → ℕ → List AccountTold → Result (List Entry) Refusal
priced_month held place accounts = each (priced_at held place) 0 accounts

-- ---- limits

-- a shipper's account once its line is issued, unless a sum would pass its limit
abbrev pub limited : ℕ → Option AccountTold → Result AccountTold Refusal
limited shipper None = Err (refusal_at AccountLimit Book shipper)
limited shipper (Some account) = Ok account

abbrev pub issued_at : List Line → ℕ → AccountTold → Result AccountTold Refusal
issued_at lines shipper account = limited shipper (issued_if (slice_index_or lines shipper no_line) account)

-- all accounts once the lines of their month are issued
abbrev pub issued_roll : List Line → List AccountTold → Result (List AccountTold) Refusal
issued_roll lines accounts = each (issued_at lines) 0 accounts

-- ---- the drawing

abbrev pub unless_lacking : Option ℕ → Result (List AccountTold) Refusal → Result (List AccountTold) Refusal
unless_lacking None drawing = drawing
unless_lacking (Some shipper) drawing = Err (refusal_at TicketMissing Book shipper)

abbrev pub issued_priced : ℕ → List AccountTold → Result (List Entry) Refusal → Result (List AccountTold) Refusal
issued_priced percent accounts (Ok entries) = issued_roll (statement_of percent entries) accounts
issued_priced percent accounts (Err refusal) = Err refusal

-- the accounts once the month is issued, if it can be drawn on a sheet of some length: the sheet is long enough, all
-- tickets of its days are in, all its prices are held, and no sum would pass its limit
abbrev pub drawn_roll : (ℕ → ℕ → Option PricesTold) → ℕ → ℕ → ℕ → ℕ → List AccountTold → Result (List AccountTold) Refusal
drawn_roll held place days percent long accounts =
    cond (nat_lt long (length accounts)) (Err (refusal_at SheetShort Sheet long))
    (unless_lacking (lacking days accounts) (issued_priced percent accounts (priced_month held place accounts)))

abbrev pub sheet_of : ℕ → List Line → Result (List AccountTold) Refusal → Result (List Entry) Refusal → List Line
sheet_of percent sheet (Ok next) (Ok entries) = sheet_after (statement_of percent entries) sheet
sheet_of percent sheet (Ok next) (Err refusal) = sheet
sheet_of percent sheet (Err refusal) entries = sheet

-- the sheet then: the statement at its front, or as it was
abbrev pub drawn_sheet : (ℕ → ℕ → Option PricesTold) → ℕ → ℕ → ℕ → List Line → List AccountTold → List Line
drawn_sheet held place days percent sheet accounts =
    sheet_of percent sheet (drawn_roll held place days percent (length sheet) accounts) (priced_month held place accounts)
