-- The worked cases: what the rules give at some figures.
use Rattle.std.specs.Prelude.{◌≡◌, ℕ, ◌*◌, Bool, true, false, List, [], ◌∷◌, ◌++◌, map, length, ℤ, pos, negsuc, Some, codes, ◌≢◌, nat_lt}
use Rattle.std.specs.List.{flat_map, All}
use Rattle.calendar.specs.Gregorian.{first_day}
use Rattle.heat.specs.Split.{split_of}
use Rattle.heat.specs.declared.split.Split.{Split}
use Rattle.prices.specs.Price.{PricesTold}
use Rattle.boards.specs.Rules.{index_prices, cost_prices}
use Rattle.shares.specs.declared.figures.Figures.{Figures}
use Rattle.shares.specs.Month.{imbalance, stirred, pool_of, share_of}
use Rattle.rates.specs.Rates.{rate_of, lower_rate, instigator_of, greatest_if}
use Rattle.rates.specs.declared.rate.Rate.{Rate}
use Rattle.text.specs.Rows.{row_text}
use Rattle.statement.specs.declared.line.Line.{Line}
use Rattle.statement.specs.declared.month.Entry.{Entry}
use Rattle.statement.specs.Statement.{figures_of, statement_of, line_figures}

abbrev pub split : ℤ → ℕ → Split ℤ
split booked remainder = record { booked = booked; remainder = remainder }

abbrev pub prices : ℕ → ℕ → ℕ → PricesTold
prices low plain high = record { low = low; plain = plain; high = high }

-- R, D and P, with nothing carried over
abbrev pub figures : ℕ → ℕ → ℕ → Figures
figures receipts deliveries plan = record { receipts = receipts; deliveries = deliveries; plan = plan; brought = pos 0 }

abbrev pub entry : Figures → Entry
entry f = record { figures = f; prices = prices 5000 7001 9000 }

abbrev pub worked_month : List Entry
worked_month = map entry (figures 1000 900 900 ∷ figures 2000 1800 1500 ∷ figures 3000 3041 3041 ∷ [])

abbrev pub text_of : List Line → List ℕ
text_of lines = flat_map (λ line. row_text (line_figures line)) lines

pub record WorkedCases : Type 0 where
  -- 101 m³ at heat 4,410, then 1 m³, then a correction of −1 m³, at standard heat 4,500
  pub booked : split_of 4500 (pos (101 * 4410)) 0 ≡ split (pos 98) 4410
  pub booked_more : split_of 4500 (pos 4410) 4410 ≡ split (pos 1) 4320
  pub corrected : split_of 4500 (negsuc 4409) 4320 ≡ split (negsuc 0) 4410
  -- R 1,000: an imbalance of 50 is not stirred, 51 is
  pub calm_at_twentieth : (f : Figures) → f.receipts ≡ 1000 → imbalance f ≡ pos 50 → stirred f ≡ false
  pub stirred_past_it : (f : Figures) → f.receipts ≡ 1000 → imbalance f ≡ pos 51 → stirred f ≡ true
  -- R 0, imbalance −1: stirred, and in any month that it is in it carries 0 and settles −1
  pub stirred_with_none : (f : Figures) → f.receipts ≡ 0 → imbalance f ≡ negsuc 0 → stirred f ≡ true
  pub settles_all : (before after : List Figures) (f : Figures) → f.receipts ≡ 0 → imbalance f ≡ negsuc 0 →
      share_of (pool_of (before ++ f ∷ after)) f ≡ record { imbalance = negsuc 0; carry = pos 0; settled = negsuc 0 }
  -- P 2,000: with D 2,100 a shipper is never the instigator, with D 2,101 it is when every other rate is smaller
  pub no_instigator : (before after : List Rate) → instigator_of (before ++ rate_of 2000 2100 ∷ after) ≢ Some (length before)
  -- nor is 100 of 2,000 the greatest above a twentieth among any fractions, in any order
  pub at_twentieth : (lt : ℕ × ℕ → ℕ × ℕ → Bool) (before after : List (ℕ × ℕ)) →
      greatest_if lt (λ f. nat_lt f.1 (20 * f.0)) (before ++ (100, 2000) ∷ after) ≢ Some (length before)
  pub instigates : (before after : List Rate) → All (λ r. lower_rate r (rate_of 2000 2101) ≡ true) before →
      All (λ r. lower_rate r (rate_of 2000 2101) ≡ true) after → instigator_of (before ++ rate_of 2000 2101 ∷ after) ≡ Some (length before)
  -- a price of each board
  pub indexed : index_prices 236 (record { lng = 6000; lpg = 9000; share = 75; tax = 260 }) ≡ Some (prices 5143 7246 9349)
  pub costed : cost_prices 4 0 (record { cost = 1000000; volume = 13333; customs = 6000 }) ≡ Some (prices 4200 7504 7800)
  -- April 2017, and the end of the table
  pub april : first_day 207 ≡ 6300
  pub end : first_day 1200 ≡ 36525
  -- a month of three shippers at tax 10 percent: V2, V3, and the statement
  pub carried : (pool_of (figures_of worked_month)).carried ≡ 150
  pub moved : (pool_of (figures_of worked_month)).moved ≡ 300
  pub statement : text_of (statement_of 10 worked_month)
      ≡ codes "0 1000 900 100 50 50 0 7001 3500 350\n1 2000 1800 200 100 100 1 5000 5000 500\n2 3000 3041 -41 -20 -21 0 7001 -1470 -147\n"
