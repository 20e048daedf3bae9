-- The costs of the actions that cuts leave, and the cuts found so far.
use Rattle.std.specs.Prelude.{ℕ, ◌+◌, ◌≡◌, ◌≤◌, ◌<◌, Bool, true, false, ◌&&◌, List, length, take}
use Rattle.std.specs.Prelude.{Option, Some, None, slice_get, slice_index, All}
use Rattle.std.specs.FinSet as set
use Rattle.std.specs.List.Sorted.{IsStrictlyIncreasing}
use Rattle.task_kit.specs.declared.cut.Cut.{Cut}
use Rattle.task_kit.specs.Cuts.{CutMeaning, counts, weight_of, IsCutOf, AreLawful}
use Rattle.task_kit.specs.Kept.{cuts_meaning}
use Rattle.task_kit.specs.Tasks.{Numbers, TaskMeaning, AllBelow, price, applies, adds_outside}
use Rattle.relax_cuts.specs.FreeClosure.{AreForced}
use Rattle.relax_cuts.specs.Lean.{UsesUp, AreLean}

-- a cut with this set counts the action
abbrev pub is_counted : TaskMeaning → ℕ → Numbers → Bool
is_counted task action among = applies task action among && adds_outside task action among

-- this is left of each action's cost by the cuts
pub record Leave (task : TaskMeaning) (cuts : List CutMeaning) (left : List ℕ) : Type 0 where
  pub sized : length left ≡ length task.actions
  pub each : (action : ℕ) → action < length task.actions
      → slice_index left action + weight_of (counts task action) cuts ≡ price task action

-- the least cost left of one of the first actions that a cut with this set counts
pub record IsLeastLeft (task : TaskMeaning) (actions : ℕ) (left : List ℕ) (among : Numbers)
    (weight : ℕ) : Type 0 where
  pub action : ℕ
  pub listed : action < actions
  pub counted : is_counted task action among ≡ true
  pub here : slice_index left action ≡ weight
  pub within : (other : ℕ) → other < actions → is_counted task other among ≡ true
      → weight ≤ slice_index left other

-- a cut with this set counts none of the first actions, or this is the least cost left of one
abbrev pub IsWeight : TaskMeaning → ℕ → List ℕ → Numbers → Option ℕ → Type 0
IsWeight task actions left among None =
    (action : ℕ) → action < actions → is_counted task action among ≡ false
IsWeight task actions left among (Some weight) = IsLeastLeft task actions left among weight

-- the set includes the state, lacks a goal atom, and has only atoms
pub record IsCutSet (task : TaskMeaning) (state among : Numbers) : Type 0 where
  pub has_state : set.is_subset state among ≡ true
  pub lacks_goal : set.is_subset task.goal among ≡ false
  pub below : AllBelow task.atoms among

-- the weight of the cut is above 0, and it lists atoms in ascending order
pub record IsFormed (atoms : ℕ) (cut : Cut) : Type 0 where
  pub weight : 0 < cut.weight
  pub ascending : IsStrictlyIncreasing cut.lacks
  pub below : All (λ atom. atom < atoms) cut.lacks

-- each cut uses up the cost of an action
abbrev pub EachUsesUp : TaskMeaning → List CutMeaning → Type 0
EachUsesUp task cuts =
    (place : ℕ) (cut : CutMeaning) → slice_get cuts place ≡ Some cut
    → UsesUp task (take place cuts) cut

-- the cuts of a state so far
pub record AreCuts (task : TaskMeaning) (state : Numbers) (cuts : List Cut) : Type 0 where
  pub formed : All (IsFormed task.atoms) cuts
  pub each : All (IsCutOf task state) (cuts_meaning task.atoms cuts)
  pub used : EachUsesUp task (cuts_meaning task.atoms cuts)

-- the cuts are lawful, forced and lean, and each is formed
pub record AreFound (task : TaskMeaning) (state : Numbers) (cuts : List Cut) : Type 0 where
  pub lawful : AreLawful task state (cuts_meaning task.atoms cuts)
  pub forced : AreForced task state (cuts_meaning task.atoms cuts)
  pub formed : All (IsFormed task.atoms) cuts
  pub lean : AreLean task (cuts_meaning task.atoms cuts)
