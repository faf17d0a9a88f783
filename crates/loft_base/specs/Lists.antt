-- What a list ends as, where a `&mut` into it is returned.
use Rattle.std.specs.Prelude.{ℕ, List, ◌++◌, length, take, drop, slice_set}
use Rattle.std.specs.Borrow.{Lends, Fml, RattleType, MutBor, Array}
use Rattle.loft_base.specs.contracts.lists.Sequence.{the_row}

-- the list with its first elements replaced by what a slice over it was left as
abbrev pub overwritten : {X : Type 0} → List X → List X → List X
overwritten list left = take (length list) (left ++ drop (length left) list)

module _ (T : RattleType) (list : MutBor (List T.Denot)) where
  -- once the borrow ends, the list is what the slice was left as
  abbrev pub LendsSlice : MutBor (List T.Denot) → Fml
  LendsSlice slice = Lends (the_row T) (Array T 0) list slice (overwritten list.now)

  -- once the borrow ends, the element at the index is what it was left as
  abbrev pub LendsItem : ℕ → MutBor T.Denot → Fml
  LendsItem index item = Lends (the_row T) T list item (slice_set list.now index)
