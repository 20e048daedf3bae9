-- The growth of a set of atoms by actions of whose cost little is left.
use Rattle.std.specs.Prelude.{ℕ, ◌≡◌, ◌≤◌, ◌<◌, true, false, List, length, Option, Some, None}
use Rattle.std.specs.Prelude.{slice_index, ◌⊎◌}
use Rattle.std.specs.FinSet as set
use Rattle.task_kit.specs.Tasks.{Numbers, TaskMeaning, AllBelow, action_at, applies}

-- at most the limit is left of the action's cost, and it applies in the set
pub record IsUsable (task : TaskMeaning) (left : List ℕ) (limit action : ℕ)
    (among : Numbers) : Type 0 where
  pub listed : action < length task.actions
  pub cheap : slice_index left action ≤ limit
  pub does : applies task action among ≡ true

-- the set includes the adds of each usable action
abbrev pub IsClosedUnder : TaskMeaning → List ℕ → ℕ → Numbers → Type 0
IsClosedUnder task left limit among =
    (action : ℕ) → IsUsable task left limit action among
    → set.is_subset (action_at task action).add among ≡ true

-- a usable action adds the atom, which isn't in the set
pub record IsLoose (task : TaskMeaning) (left : List ℕ) (limit : ℕ) (among : Numbers)
    (atom : ℕ) : Type 0 where
  pub action : ℕ
  pub usable : IsUsable task left limit action among
  pub added : set.contains (action_at task action).add atom ≡ true
  pub outside : set.contains among atom ≡ false

-- no atom is loose if there is None, and this atom is loose otherwise
abbrev pub IsLooseWhere : TaskMeaning → List ℕ → ℕ → Numbers → Option ℕ → Type 0
IsLooseWhere task left limit among None = IsClosedUnder task left limit among
IsLooseWhere task left limit among (Some atom) = IsLoose task left limit among atom

-- the set grew, by atoms that are in each closed set that includes the old set
pub record Spreads (task : TaskMeaning) (left : List ℕ) (limit : ℕ)
    (old new : Numbers) : Type 0 where
  pub grows : set.is_subset old new ≡ true
  pub within : (other : Numbers) → set.is_subset old other ≡ true
      → IsClosedUnder task left limit other → set.is_subset new other ≡ true
  pub below : AllBelow task.atoms old → AllBelow task.atoms new

-- the set grew, by some of these atoms
pub record AddsSome (adds old new : Numbers) : Type 0 where
  pub grows : set.is_subset old new ≡ true
  pub only : (atom : ℕ) → set.contains new atom ≡ true
      → (set.contains old atom ≡ true) ⊎ (set.contains adds atom ≡ true)
