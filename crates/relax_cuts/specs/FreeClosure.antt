-- The atoms that can be made true from a state at no cost, where nothing is deleted.
use Rattle.std.specs.Prelude.{ℕ, ◌≡◌, ◌≤◌, true, false, List, Some}
use Rattle.std.specs.FinSet as set
use Rattle.task_kit.specs.Cuts.{CutMeaning, weights}
use Rattle.task_kit.specs.Tasks.{Numbers, TaskMeaning, action_at, cost_at}

-- the set includes the adds of each action of cost 0 whose preconditions it includes
abbrev pub IsFreelyClosed : TaskMeaning → Numbers → Type 0
IsFreelyClosed task among =
    (action : ℕ) → cost_at task action ≡ Some 0
    → set.is_subset (action_at task action).pre among ≡ true
    → set.is_subset (action_at task action).add among ≡ true

-- the free closure of a state: the least freely closed set that includes the state
pub record IsFreeClosure (task : TaskMeaning) (state : Numbers) (closure : Numbers) : Type 0 where
  pub has_state : set.is_subset state closure ≡ true
  pub closed : IsFreelyClosed task closure
  pub least : (other : Numbers) → set.is_subset state other ≡ true → IsFreelyClosed task other
      → set.is_subset closure other ≡ true

-- the cuts weigh at least 1 if the free closure of the state lacks a goal atom
abbrev pub AreForced : TaskMeaning → Numbers → List CutMeaning → Type 0
AreForced task state cuts =
    (closure : Numbers) → IsFreeClosure task state closure → set.is_subset task.goal closure ≡ false
    → 1 ≤ weights cuts
