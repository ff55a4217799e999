-- The marks of a month's days, by their place in the month.
use Rattle.std.specs.Prelude.{ℕ, Bool, true, List, take, count_by, slice_index_or}
use Rattle.std.specs.List.{list_all}

-- a day that no month has is taken from the start
abbrev pub taken : ℕ → List Bool → Bool
taken place marks = slice_index_or marks place true

-- how many days are marked
abbrev pub marked : List Bool → ℕ
marked marks = count_by (λ mark. mark) marks

-- the first so many days
abbrev pub all_marked : ℕ → List Bool → Bool
all_marked days marks = list_all (λ mark. mark) (take days marks)
