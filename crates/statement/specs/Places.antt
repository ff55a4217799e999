-- The sixteen places of a month: its shippers', and after them places of no shipper.
use Rattle.std.specs.Prelude.{◌≡◌, ℕ, ◌-◌, ◌≤◌, List, ◌++◌, length, take, drop, replicate}
use Rattle.std.proofs.Common.{sym, ap, ◌∙◌, subst}
use Rattle.std.proofs.lemmas.List.{length-take-le, take-append-drop}
use Rattle.statement.specs.declared.month.Entry.{Entry}
use Rattle.statement.specs.declared.month.Month.TheInside.{Inside}
use Rattle.statement.specs.Statement.{no_shipper}

abbrev pub shippers : Inside → List Entry
shippers m = take m.count m.entries

pub record Placed (m : Inside) : Type 0 where
  pub few : m.count ≤ 16
  pub whole : length m.entries ≡ 16
  pub rest : drop m.count m.entries ≡ replicate (16 - m.count) no_shipper

-- the month that has these shippers
abbrev pub places : List Entry → Inside
places entries = record { count = length entries; entries = entries ++ replicate (16 - length entries) no_shipper }

pub places_back : (m : Inside) → Placed m → places (shippers m) ≡ m
places_back m placed =
    let count : length (shippers m) ≡ m.count = length-take-le m.count m.entries (subst (λ (n : ℕ). m.count ≤ n) (sym placed.whole) placed.few) in
    let entries : shippers m ++ replicate (16 - length (shippers m)) no_shipper ≡ m.entries =
    ap (λ (n : ℕ). shippers m ++ replicate (16 - n) no_shipper) count
    ∙ ap (λ (rest : List Entry). shippers m ++ rest) (sym placed.rest)
    ∙ take-append-drop m.count m.entries in λ i. record { count = count i; entries = entries i }
