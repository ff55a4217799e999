-- The lines of a statement, one by one.
use Rattle.std.proofs.Common.{◌≡◌, ℕ, zero, suc, ◌+◌, ◌<◌, List, [], ◌∷◌, length, get_or, Option, refl, ap, ◌∙◌, subst, arith}
use Rattle.std.specs.List.{All}
use Rattle.std.proofs.lemmas.List.{length-map, get_or-map}
use Rattle.shares.specs.Pool.{PoolTold}
use Rattle.shares.specs.Month.{Fair}
use Rattle.statement.specs.Statement.{figures_of, line_of, lines_from}
use Rattle.statement.specs.declared.line.Line.{Line}
use Rattle.statement.specs.declared.month.Entry.{Entry}

module _ (pool : PoolTold) (instigator : Option ℕ) (percent : ℕ) where
  -- one for each shipper
  pub lines_long : (k : ℕ) (entries : List Entry) → length (lines_from pool instigator percent k entries) ≡ length entries
  lines_long k [] = refl
  lines_long k (e ∷ es) = ap suc (lines_long (k + 1) es)

  line_at : (k : ℕ) (entries : List Entry) (i : ℕ) (x : Entry) (d : Line) → i < length entries →
      get_or (lines_from pool instigator percent k entries) i d ≡ line_of pool instigator percent (k + i) (get_or entries i x)
  line_at k [] i x d h = elim h [ ]
  line_at k (e ∷ es) zero x d h = ap (λ (n : ℕ). line_of pool instigator percent n e) (omega arith)
  line_at k (e ∷ es) (suc i) x d h =
      line_at (k + 1) es i x d (omega (arith, h))
      ∙ ap (λ (n : ℕ). line_of pool instigator percent n (get_or es i x)) (omega arith)

  pub line_of_shipper : (entries : List Entry) (i : ℕ) (x : Entry) (d : Line) → i < length entries →
      get_or (lines_from pool instigator percent 0 entries) i d ≡ line_of pool instigator percent i (get_or entries i x)
  line_of_shipper entries i x d h =
      line_at 0 entries i x d h ∙ ap (λ (n : ℕ). line_of pool instigator percent n (get_or entries i x)) (omega arith)

-- what is fair to all is fair to each
pub fair_at : (pool : PoolTold) (entries : List Entry) (i : ℕ) (x : Entry) → i < length entries →
    All (Fair pool) (figures_of entries) → Fair pool (get_or entries i x).figures
fair_at pool entries i x h all =
    subst (Fair pool) (get_or-map (λ (e : Entry). e.figures) entries i x x.figures h)
    (all i x.figures (omega (arith, h, length-map entries (λ (e : Entry). e.figures))))
