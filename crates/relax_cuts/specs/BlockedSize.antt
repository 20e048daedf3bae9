-- The numbers of atoms and actions for which there is room.
use Rattle.std.specs.Prelude.{ℕ, ◌≡◌, length}
use Rattle.relax_cuts.specs.declared.blocked.BlockedActions.{BlockedActions}

-- there is room for this number of atoms and actions
pub record HasRoom (atoms actions : ℕ) (blocked : BlockedActions) : Type 0 where
  pub lists : length blocked.last.items ≡ atoms
  pub places : length blocked.before.items ≡ actions

-- there is the same room as before
abbrev pub IsAsLarge : BlockedActions → BlockedActions → Type 0
IsAsLarge old new = HasRoom (length old.last.items) (length old.before.items) new
