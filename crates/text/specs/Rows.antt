-- Rows of figures as text, and what writing one into a buffer gives.
use Rattle.refusals.specs.Grounds.{refusal_at}
use Rattle.std.specs.Prelude.{ℕ, ◌+◌, Bool, cond, List, [], ◌∷◌, ◌++◌, length, take, drop, Ok, Err, decimal, Result, nat_le}
use Rattle.std.specs.Fmt.{signed_decimal}
use Rattle.refusals.specs.declared.Ground.TheVariants.{SheetShort}
use Rattle.refusals.specs.declared.Layer.TheVariants.{Sheet}
use Rattle.refusals.specs.declared.Refusal.{Refusal}
use Rattle.text.specs.declared.Figure.{Figure}
use Rattle.text.specs.declared.Figure.TheVariants.{Natural, Integer}

abbrev pub figure_text : Figure → List ℕ
figure_text (Natural n) = decimal n
figure_text (Integer z) = signed_decimal z

-- the byte after a figure: a space while others follow, and a line feed after the last
abbrev pub ending : List Figure → ℕ
ending [] = 10
ending (figure ∷ figures) = 32

-- a figure with the byte after it
abbrev pub ended : Figure → ℕ → List ℕ
ended figure end = figure_text figure ++ (end ∷ [])

abbrev pub row_text : List Figure → List ℕ
row_text [] = []
row_text (figure ∷ figures) = ended figure (ending figures) ++ row_text figures

-- the buffer with a text in it from a place on
abbrev pub placed : ℕ → List ℕ → List ℕ → List ℕ
placed at text buffer = take at buffer ++ (text ++ drop (at + length text) buffer)

-- whether the row from a place on stays within a buffer of this size
abbrev pub fits : List Figure → ℕ → ℕ → Bool
fits figures size at = nat_le (at + length (row_text figures)) size

-- the place after the text, or a refusal that names the whole size
abbrev pub row_answer : List Figure → ℕ → ℕ → Result ℕ Refusal
row_answer figures size at =
    cond (fits figures size at) (Ok (at + length (row_text figures)))
    (Err (refusal_at SheetShort Sheet size))

abbrev pub row_after : List Figure → List ℕ → ℕ → List ℕ
row_after figures buffer at = cond (fits figures (length buffer) at) (placed at (row_text figures) buffer) buffer
