-- The statement of a month: a line for each shipper, in the order of their numbers.
use Rattle.refusals.specs.Grounds.{refusal_at}
use Rattle.std.specs.Prelude.{◌≡◌, ℕ, ◌+◌, ◌*◌, ◌≤◌, Bool, false, cond, List, [], ◌∷◌, ◌++◌, map, length, drop, pos, ◌+ℤ◌, Some, None, Option, nat_eq, nat_lt, unsigned_abs}
use Rattle.std.specs.Option.{option_eq}
use Rattle.std.specs.List.{All}
use Rattle.refusals.specs.declared.Ground.TheVariants.{SheetShort}
use Rattle.refusals.specs.declared.Layer.TheVariants.{Sheet}
use Rattle.refusals.specs.declared.Refusal.{Refusal}
use Rattle.shares.specs.declared.figures.Figures.{Figures}
use Rattle.shares.specs.declared.pools.Share.{Share}
use Rattle.shares.specs.Pool.{PoolTold}
use Rattle.shares.specs.Month.{pool_of, share_of}
use Rattle.rates.specs.declared.rate.Rate.{Rate}
use Rattle.rates.specs.Rates.{rate_of, instigator_of}
use Rattle.settlement.specs.declared.PriceKind.{PriceKind}
use Rattle.settlement.specs.declared.PriceKind.TheVariants.{Plain}
use Rattle.settlement.specs.Settlement.{kind_number, kind_of, price_of, yen_of, tax_of}
use Rattle.text.specs.declared.Figure.{Figure}
use Rattle.text.specs.declared.Figure.TheVariants.{Natural, Integer}
use Rattle.statement.specs.declared.line.Line.{Line}
use Rattle.statement.specs.declared.month.Entry.{Entry}

-- what fills the places that no shipper has
abbrev pub no_shipper : Entry
no_shipper = record {
  figures = record { receipts = 0; deliveries = 0; plan = 0; brought = pos 0 };
  prices = record { low = 1; plain = 1; high = 1 };
}

-- one shipper more, while there are fewer than sixteen
abbrev pub with_entry : List Entry → Entry → List Entry
with_entry entries entry = cond (nat_lt (length entries) 16) (entries ++ entry ∷ []) entries

abbrev pub figures_of : List Entry → List Figures
figures_of entries = map (λ e. e.figures) entries

abbrev pub rate_of_figures : Figures → Rate
rate_of_figures f = rate_of f.plan f.deliveries

abbrev pub rates_of : List Entry → List Rate
rates_of entries = map (λ e. rate_of_figures e.figures) entries

-- whether a shipper is the one found
abbrev pub is_found : Option ℕ → ℕ → Bool
is_found instigator shipper = option_eq nat_eq instigator (Some shipper)

-- a line's ten fields, of a share of the imbalance and a kind of price
abbrev pub fields_of : ℕ → ℕ → Entry → Share → PriceKind → Line
fields_of percent shipper entry share kind = record {
  shipper = shipper;
  receipts = entry.figures.receipts;
  deliveries = entry.figures.deliveries;
  imbalance = share.imbalance;
  carry = share.carry;
  settled = share.settled;
  kind = kind;
  price = price_of kind entry.prices;
  yen = yen_of share.settled (price_of kind entry.prices);
  tax = tax_of (yen_of share.settled (price_of kind entry.prices)) percent;
}

-- by the month's pool and instigator
abbrev pub line_of : PoolTold → Option ℕ → ℕ → ℕ → Entry → Line
line_of pool instigator percent shipper entry =
    fields_of percent shipper entry (share_of pool entry.figures)
    (kind_of (is_found instigator shipper) (share_of pool entry.figures).settled)

abbrev pub lines_from : PoolTold → Option ℕ → ℕ → ℕ → List Entry → List Line
lines_from pool instigator percent shipper [] = []
lines_from pool instigator percent shipper (entry ∷ entries) =
    line_of pool instigator percent shipper entry ∷ lines_from pool instigator percent (shipper + 1) entries

-- the whole statement, at a tax percentage
abbrev pub statement_of : ℕ → List Entry → List Line
statement_of percent entries = lines_from (pool_of (figures_of entries)) (instigator_of (rates_of entries)) percent 0 entries

-- what a sheet holds before anything is drawn on it
abbrev pub no_line : Line
no_line = record {
  shipper = 0;
  receipts = 0;
  deliveries = 0;
  imbalance = pos 0;
  carry = pos 0;
  settled = pos 0;
  kind = Plain;
  price = 0;
  yen = pos 0;
  tax = pos 0;
}

-- the refusal that is due when so many lines are to go on a sheet of some length
abbrev pub sheet_bar : ℕ → ℕ → Option Refusal
sheet_bar lines long = cond (nat_lt long lines) (Some (refusal_at SheetShort Sheet long)) None

-- lines at the front of a sheet, whose rest stays; a sheet that is too short stays whole
abbrev pub sheet_after : List Line → List Line → List Line
sheet_after lines sheet = cond (nat_lt (length sheet) (length lines)) sheet (lines ++ drop (length lines) sheet)

-- a line's ten fields, as they are written
abbrev pub line_figures : Line → List Figure
line_figures line =
    Natural line.shipper
    ∷ Natural line.receipts
    ∷ Natural line.deliveries
    ∷ Integer line.imbalance
    ∷ Integer line.carry
    ∷ Integer line.settled
    ∷ Natural (kind_number line.kind)
    ∷ Natural line.price
    ∷ Integer line.yen
    ∷ Integer line.tax
    ∷ []

-- ---- what is then true

-- 20 × |imbalance| > R
abbrev pub stirred_line : Line → Bool
stirred_line line = nat_lt line.receipts (20 * unsigned_abs line.imbalance)

-- carry and settled make the imbalance; a carry is at most a twentieth of the receipts, and that of a shipper who is
-- not stirred at most its imbalance
pub record FairLine (line : Line) : Type 0 where
  pub whole : line.carry +ℤ line.settled ≡ line.imbalance
  pub twentieth : 20 * unsigned_abs line.carry ≤ line.receipts
  pub within : stirred_line line ≡ false → unsigned_abs line.carry ≤ unsigned_abs line.imbalance

abbrev pub FairLines : List Line → Type 0
FairLines lines = All FairLine lines

abbrev pub NoLineStirred : List Line → Type 0
NoLineStirred lines = All (λ line. stirred_line line ≡ false) lines

abbrev pub EachCarriesAll : List Line → Type 0
EachCarriesAll lines = All (λ line. line.carry ≡ line.imbalance) lines

-- all carry their whole imbalance exactly when none is stirred
abbrev pub CalmLines : List Line → Type 0
CalmLines lines = (NoLineStirred lines → EachCarriesAll lines) × (EachCarriesAll lines → NoLineStirred lines)
