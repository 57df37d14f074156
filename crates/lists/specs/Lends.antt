-- What a list is after a mutable borrow of one of its items has ended.
use Rattle.std.specs.Prelude.{ℕ, List, slice_set}
use Rattle.std.specs.Borrow.{Lends, MutBor, Fml, RattleType}
use Rattle.lists.specs.contracts.list.List.{the_row}

module _ (T : RattleType) (list : MutBor (List T.Denot)) where
  -- when the borrow of the item at this index ends, the list has there what was last written through it, and all else
  -- is as it was
  abbrev pub lends_item : ℕ → MutBor T.Denot → Fml
  lends_item index r = Lends (the_row T) T list r (slice_set list.now index)
