-- What a slice, an array and a row end as, where one of their elements is lent: the last value behind r in its place.
use Rattle.std.specs.Prelude.{ℕ, List, Option, slice_set}
use Rattle.std.specs.Borrow.{Lends, LendsIf, Fml, MutBor, Array, RattleType}
use Rattle.rolls.specs.declared.spare.Spare.{Ghosts}
use Rattle.rolls.specs.contracts.roll.Roll as roll

module _ (T : RattleType) (s : MutBor (List T.Denot)) (at : ℕ) where
  -- an element of a slice
  abbrev pub lends_item : MutBor T.Denot → Fml
  lends_item r = Lends (Array T 0) T s r (slice_set s.now at)

  -- an element of an array of n
  abbrev pub lends_place : ℕ → MutBor T.Denot → Fml
  lends_place n r = Lends (Array T n) T s r (slice_set s.now at)

  -- a place of a row that is told; g tells the spare item, which is a part of the row's type
  abbrev pub lends_told : Ghosts T.Denot → MutBor T.Denot → Fml
  lends_told g r = Lends (roll.the_row T g) T s r (slice_set s.now at)

  -- a shipper's account; without one the row stays
  abbrev pub lends_account : Ghosts T.Denot → Option (MutBor T.Denot) → Fml
  lends_account g r = LendsIf (roll.the_row T g) T s r (slice_set s.now at) s.now
