-- A slice of figures fits in memory, so the bytes of its figures can be counted.
use Rattle.std.proofs.Common.{◌≡◌, ℕ, ◌+◌, ◌^◌, ◌≤◌, List, [], ◌∷◌, length, sum_by, refl, ◌∙◌, arith, rules, length-append}
use Rattle.std.proofs.lemmas.Iterator.{YieldsList-from_slice}
use Rattle.std.proofs.lemmas.Iterator.Adapters.{fits_from_length, at_most_from_yields_List}
use Rattle.std.proofs.iter.runs.Made.{chains}
use Rattle.std.proofs.lemmas.List.Sums.{sum_by-cons}
use Rattle.text.specs.Rows.{figure_text, ended, ending, row_text}
use Rattle.text.specs.declared.Figure.{Figure}
use Rattle.text.proofs.Steps.{length_ended}
use Rattle.text.proofs.row_length.Goals as goal

abbrev size : Figure → ℕ
size figure = length (figure_text figure) + 1

whole : (figures : List Figure) → sum_by size figures ≡ length (row_text figures)
whole [] = refl
whole (figure ∷ figures) =
    let end = ending figures in
    omega (
      arith,
      sum_by-cons size figure figures,
      length-append (ended figure end) (row_text figures),
      length_ended figure end,
      whole figures,
    )

pub sum-requires-clause-fits : goal.sum-requires-clause-fits
sum-requires-clause-fits c =
    let few : length c.args.figures.now ≤ 2 ^ 59 = omega arith in
    fits_from_length _ _ (2 ^ 59) _ (at_most_from_yields_List (YieldsList-from_slice c.args.figures.now cc) few)
    c.map.ensures.closure (omega arith) (λ x r q k. search rules)

pub returns : goal.returns
returns c =
    let total : c.sum.result ≡ sum_by size c.args.figures.now = search (rules, chains) in
    record { value = total ∙ whole c.args.figures.now }
