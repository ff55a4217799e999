-- A figure with the byte after it goes to the front of the tail, and what is left of the row stays to be placed.
use Rattle.std.proofs.Common.{◌≡◌, ℕ, ◌+◌, ◌-◌, ◌≤◌, List, ◌++◌, length, get_or, drop, sym, ap, ◌∙◌, arith, length-append}
use borrow.Rule.Slice.PartMut.{put_mid}
use Rattle.text.specs.Rows.{ending, ended, row_text, placed}
use Rattle.text.specs.declared.Figure.{Figure}
use Rattle.text.specs.declared.Figure.TheVariants.{Natural}
use Rattle.text.proofs.Steps.{row_more, ending_more, ending_all}
use Rattle.text.proofs.Tails.{placed_step}
use Rattle.text.proofs.put_row.Goals as goal
use Rattle.text.proofs.put_row.Goals.{Joined-i-figures, then-i-figures, else-i-figures}

-- the figure of this turn, what is written of it, and what comes after
abbrev this : Joined-i-figures → Figure
this c = get_or c.args.figures.now c.loop-i.i (Natural 0)

abbrev text : Joined-i-figures → List ℕ
text c = ended (this c) c.if-i-figures.end

abbrev rest : Joined-i-figures → List Figure
rest c = drop (c.loop-i.i + 1) c.args.figures.now

end_is : (c : Joined-i-figures) → c.if-i-figures.end ≡ ending (rest c)
end_is c =
    elim c.if-i-figures.branch [
      | then-i-figures w ↦ omega (arith, w.end-is, ending_more c.args.figures.now (c.loop-i.i + 1) (omega arith))
      | else-i-figures w ↦ omega (arith, w.end-is, ending_all c.args.figures.now (c.loop-i.i + 1) (omega arith))
    ]

left : (c : Joined-i-figures) → row_text (drop c.loop-i.i c.args.figures.now) ≡ text c ++ row_text (rest c)
left c =
    row_more c.args.figures.now c.loop-i.i c.loop-i-test.true
    ∙ ap (λ end. ended (this c) end ++ row_text (rest c)) (sym (end_is c))

reach : (c : Joined-i-figures) →
    c.loop-i.place + length (text c) + length (row_text (rest c)) ≡ c.args.at + length (row_text c.args.figures.now)
reach c = omega (arith, ap length (left c) ∙ length-append (text c) (row_text (rest c)), c.loop-i.invariant.0)

pub loop-i-preserved : goal.loop-i-preserved
loop-i-preserved c =
    let j = (goal.at.loop-i-preserved c).Joined-i-figures in
    let place = c.loop-i.place in
    let buffer = c.loop-i.buffer in
    let last = c.put_figure-place.new.out in
    let put : List ℕ = put_mid place (length buffer - place) buffer last in
    let room : place + length (text j) ≤ length buffer = omega (arith, reach j, c.loop-i.auto.buffer) in (
      omega (arith, reach j, c.put_figure-place.ensures.value),
      ap (λ n. placed (place + n) (row_text (rest j)) put) c.put_figure-place.ensures.value
          ∙ placed_step place (text j) (row_text (rest j)) buffer last room c.put_figure-place.ensures.after
          ∙ ap (λ bytes. placed place bytes buffer) (sym (left j))
          ∙ c.loop-i.invariant.1,
    )
