-- The value of a list after a change of an item that it lent.
use Rattle.std.specs.Prelude.{ℕ, List, slice_set}
use Rattle.std.specs.Borrow.{Lends, MutBor, Fml, RattleType}
use Rattle.mre_base.specs.contracts.list.List.{the_row}

-- in the end the item at this place has the last value of the lent reference
abbrev pub LendsItem : (T : RattleType) → MutBor (List T.Denot) → ℕ → MutBor T.Denot → Fml
LendsItem T list place item = Lends (the_row T) T list item (slice_set list.now place)
