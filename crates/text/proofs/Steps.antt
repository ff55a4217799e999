-- A row's text, figure by figure: what is left of it from one place of the row on.
use Rattle.std.proofs.Common.{◌≡◌, ℕ, ◌+◌, ◌<◌, ◌≤◌, List, [], ◌∷◌, ◌++◌, length, get_or, drop, arith, length-append}
use Rattle.std.proofs.lemmas.List.{at_drop_more, at_drop_all}
use Rattle.text.specs.Rows.{figure_text, ending, ended, row_text}
use Rattle.text.specs.declared.Figure.{Figure}
use Rattle.text.specs.declared.Figure.TheVariants.{Natural}

pub length_ended : (figure : Figure) (end : ℕ) → length (ended figure end) ≡ length (figure_text figure) + 1
length_ended figure end = length-append (figure_text figure) (end ∷ [])

-- a figure takes a byte or more
pub row_long : (figures : List Figure) → length figures ≤ length (row_text figures)
row_long [] = omega arith
row_long (figure ∷ figures) =
    let end = ending figures in
    omega (arith, length-append (ended figure end) (row_text figures), length_ended figure end, row_long figures)

module _ (figures : List Figure) (i : ℕ) where
  pub ending_more : i < length figures → ending (drop i figures) ≡ 32
  ending_more h = at_drop_more ending figures i (Natural 0) h

  pub ending_all : length figures ≤ i → ending (drop i figures) ≡ 10
  ending_all h = at_drop_all ending figures i h

  pub row_more : i < length figures →
      row_text (drop i figures) ≡ ended (get_or figures i (Natural 0)) (ending (drop (i + 1) figures)) ++ row_text (drop (i + 1) figures)
  row_more h = at_drop_more row_text figures i (Natural 0) h
