-- The laws of a month's shares, told of the lines of its statement.
use Rattle.std.proofs.Common.{◌≡◌, ℕ, ◌<◌, false, List, length, get_or, Option, sym, subst, arith}
use Rattle.std.specs.List.{All}
use Rattle.std.proofs.lemmas.List.{length-map, get_or-map}
use Rattle.shares.specs.declared.figures.Figures.{Figures}
use Rattle.shares.specs.Pool.{PoolTold}
use Rattle.shares.specs.Month.{imbalance, stirred, pool_of, share_of, Fair, AllFair, CalmExactly}
use Rattle.statement.specs.declared.month.Entry.{Entry}
use Rattle.statement.specs.Statement.{no_shipper, no_line, figures_of, line_of, lines_from, stirred_line, FairLine, FairLines, CalmLines}
use Rattle.statement.specs.declared.line.Line.{Line}
use Rattle.statement.proofs.Lines.{lines_long, line_of_shipper}

module _ (pool : PoolTold) (instigator : Option ℕ) (percent : ℕ) (P : Figures → Type 0) (Q : Line → Type 0) (entries : List Entry) where
  figures_at : (k : ℕ) (f : Figures) → k < length entries → get_or (figures_of entries) k f ≡ (get_or entries k no_shipper).figures
  figures_at k f h = get_or-map (λ (e : Entry). e.figures) entries k no_shipper f h

  lines_all : ((k : ℕ) (e : Entry) → P e.figures → Q (line_of pool instigator percent k e)) → All P (figures_of entries) →
      All Q (lines_from pool instigator percent 0 entries)
  lines_all step all k d h =
      let inside : k < length entries = omega (arith, h, lines_long pool instigator percent 0 entries) in
      let fact : P (get_or entries k no_shipper).figures =
      subst P (figures_at k no_shipper.figures inside)
      (all k no_shipper.figures (omega (arith, inside, length-map entries (λ (e : Entry). e.figures)))) in
      subst Q (sym (line_of_shipper pool instigator percent entries k no_shipper d inside)) (step k (get_or entries k no_shipper) fact)

  figures_all : ((k : ℕ) (e : Entry) → Q (line_of pool instigator percent k e) → P e.figures) →
      All Q (lines_from pool instigator percent 0 entries) → All P (figures_of entries)
  figures_all step all k f h =
      let inside : k < length entries = omega (arith, h, length-map entries (λ (e : Entry). e.figures)) in
      let fact : Q (line_of pool instigator percent k (get_or entries k no_shipper)) =
      subst Q (line_of_shipper pool instigator percent entries k no_shipper no_line inside)
      (all k no_line (omega (arith, inside, lines_long pool instigator percent 0 entries))) in
      subst P (sym (figures_at k f inside)) (step k (get_or entries k no_shipper) fact)

module _ (pool : PoolTold) (instigator : Option ℕ) (percent : ℕ) where
  fair_line : (k : ℕ) (e : Entry) → Fair pool e.figures → FairLine (line_of pool instigator percent k e)
  fair_line k e fair = record { whole = fair.whole; twentieth = fair.twentieth; within = fair.within }

module _ (instigator : Option ℕ) (percent : ℕ) (entries : List Entry) where
  abbrev pool : PoolTold
  pool = pool_of (figures_of entries)

  abbrev lines : List Line
  lines = lines_from pool instigator percent 0 entries

  pub fair_lines : AllFair (figures_of entries) → FairLines lines
  fair_lines all = lines_all pool instigator percent (Fair pool) FairLine entries (fair_line pool instigator percent) all

  -- a figure's facts and its line's are the same
  abbrev Calm : Figures → Type 0
  Calm f = stirred f ≡ false

  abbrev CalmLine : Line → Type 0
  CalmLine line = stirred_line line ≡ false

  abbrev Whole : Figures → Type 0
  Whole f = (share_of pool f).carry ≡ imbalance f

  abbrev WholeLine : Line → Type 0
  WholeLine line = line.carry ≡ line.imbalance

  pub calm_lines : CalmExactly (figures_of entries) → CalmLines lines
  calm_lines calm = (
    λ none. lines_all pool instigator percent Whole WholeLine entries (λ k e h. h)
        (calm.0 (figures_all pool instigator percent Calm CalmLine entries (λ k e h. h) none)),
    λ all. lines_all pool instigator percent Calm CalmLine entries (λ k e h. h)
        (calm.1 (figures_all pool instigator percent Whole WholeLine entries (λ k e h. h) all)),
  )
