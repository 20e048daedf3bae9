-- Why no valid list of a task costs less than a bound: numbered states that include the successors
-- of each state, unless they are too dear.
use Rattle.std.specs.Prelude.{ℕ, ◌+◌, ◌≡◌, ◌≤◌, ◌<◌, true, false, List, Option, Some, None}
use Rattle.std.specs.Prelude.{Contains, ◌⊎◌}
use Rattle.std.specs.Ordering.{nat_cmp}
use Rattle.std.specs.FinSet as set
use Rattle.task_kit.specs.Tasks.{Numbers, TaskMeaning, price, applies, after, IsValidFrom, IsValid}
use Rattle.task_kit.specs.Tasks.{cost_of}

-- no valid list, of any length, costs less than k
abbrev pub HasNoCheaper : TaskMeaning → ℕ → Type 0
HasNoCheaper task k = (list : List ℕ) → IsValid task list → k ≤ cost_of task list

-- the cost of each list from the state to the goal, added to the state's number, is at least k
abbrev pub IsFar : TaskMeaning → ℕ → Numbers → ℕ → Type 0
IsFar task k state number =
    (list : List ℕ) → IsValidFrom task state list → k ≤ number + cost_of task list

-- the state is known with this number or a smaller one
abbrev pub IsKnownWithin : (Numbers → ℕ → Type 0) → Numbers → ℕ → Type 0
IsKnownWithin known state number = (smaller : ℕ) × known state smaller × (smaller ≤ number)

-- the state lacks a goal atom, and each successor costs at least k in all, or is known with that
-- sum or a smaller number
pub record IsExpanded (task : TaskMeaning) (k : ℕ) (known : Numbers → ℕ → Type 0) (state : Numbers)
    (number : ℕ) : Type 0 where
  pub lacks_goal : set.is_subset task.goal state ≡ false
  pub successors : (action : ℕ) → applies task action state ≡ true →
      (k ≤ number + price task action) ⊎ IsKnownWithin known (after task action
      state) (number + price task action)

-- the start is known with 0, and each known state is expanded, far from the goal, or known with a
-- smaller number
pub record Shows (task : TaskMeaning) (k : ℕ) (known : Numbers → ℕ → Type 0) : Type 0 where
  pub start : 0 < k → known task.start 0
  pub each : (state : Numbers) (number : ℕ) → known state number →
      IsExpanded task k known state number ⊎ IsFar task k state number
      ⊎ ((smaller : ℕ) × known state smaller × (smaller < number))

-- a state with a number
pub record NumberedState : Type 0 where
  pub state : set.FinSet nat_cmp
  pub number : ℕ

-- the state is listed with the number
abbrev pub IsListed : List NumberedState → Numbers → ℕ → Type 0
IsListed states state number =
    (s : NumberedState) × Contains states s × (s.state ≡ state) × (s.number ≡ number)

-- the law of bounds: if listed states include the start and, of each of them, every successor below
-- k, then no valid list costs less than k
abbrev pub BoundLaw : Type 0
BoundLaw =
    (task : TaskMeaning) (k : ℕ) (states : List NumberedState) → Shows task k (IsListed states)
    → HasNoCheaper task k

-- the answer of a search below k: a valid list that costs less than k and no more than any other,
-- or None if no valid list costs less than k
abbrev pub IsCheapestBelow : TaskMeaning → ℕ → Option (List ℕ) → Type 0
IsCheapestBelow task k None = HasNoCheaper task k
IsCheapestBelow task k (Some list) =
    IsValid task list × (cost_of task list < k) × HasNoCheaper task (cost_of task list)
