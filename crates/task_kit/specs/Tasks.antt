-- Tasks on numbers, after STRIPS. Atoms and ground actions are numbers from 0 on, and a state is
-- the set of its true atoms. In a task with n atoms the number n means whatever can never be true:
-- it may be a precondition, and no state has it.
use Rattle.std.specs.Prelude.{ℕ, ◌+◌, ◌^◌, ◌≡◌, ◌<◌, Bool, true, false, ◌&&◌, not, is_some, List}
use Rattle.std.specs.Prelude.{[], ◌∷◌, length, Option, None, Some, unwrap_or, slice_get}
use Rattle.std.specs.Ordering.{nat_cmp}
use Rattle.std.specs.FinSet as set
use Rattle.mre_base.specs.Sets.{BitSet}

-- the atoms of a state, or another set of numbers
abbrev pub Numbers : Type 0
Numbers = set.FinSet nat_cmp

-- the set of a list's numbers
abbrev pub set_of : List ℕ → Numbers
set_of numbers = set.from_list numbers

-- an action: its preconditions, what it makes true and false, and its cost if it has one
pub record ActionMeaning : Type 0 where
  pub pre : set.FinSet nat_cmp
  pub add : set.FinSet nat_cmp
  pub del : set.FinSet nat_cmp
  pub cost : Option ℕ

-- a task: the number of atoms, the first state, the goal atoms, and the actions
pub record TaskMeaning : Type 0 where
  pub atoms : ℕ
  pub start : set.FinSet nat_cmp
  pub goal : set.FinSet nat_cmp
  pub actions : List ActionMeaning

-- the action at a number that isn't listed: it has no cost, so it never applies
abbrev pub no_action : ActionMeaning
no_action = record { pre = set.empty; add = set.empty; del = set.empty; cost = None }

-- the action with a number
abbrev pub action_at : TaskMeaning → ℕ → ActionMeaning
action_at task action = unwrap_or (slice_get task.actions action) no_action

-- the cost of an action, if it has one
abbrev pub cost_at : TaskMeaning → ℕ → Option ℕ
cost_at task action = (action_at task action).cost

-- the cost of an action, or 0 if it has none
abbrev pub price : TaskMeaning → ℕ → ℕ
price task action = unwrap_or (cost_at task action) 0

-- the action has a cost, and its preconditions are in the state
abbrev pub applies : TaskMeaning → ℕ → Numbers → Bool
applies task action state =
    is_some (cost_at task action) && set.is_subset (action_at task action).pre state

-- the successor: the deletes are taken out of the state, and then the adds are put in
unfoldable pub after : TaskMeaning → ℕ → Numbers → Numbers
after task action state =
    set.union (set.difference state (action_at task action).del) (action_at task action).add

-- the action adds an atom that isn't in the set
abbrev pub adds_outside : TaskMeaning → ℕ → Numbers → Bool
adds_outside task action among = not (set.is_subset (action_at task action).add among)

-- the actions apply one after another from the state on, and the goal atoms are in the last state
abbrev pub IsValidFrom : TaskMeaning → Numbers → List ℕ → Type 0
IsValidFrom task state [] = set.is_subset task.goal state ≡ true
IsValidFrom task state (action ∷ list) =
    (applies task action state ≡ true) × IsValidFrom task (after task action state) list

-- the list is a plan of the task
abbrev pub IsValid : TaskMeaning → List ℕ → Type 0
IsValid task list = IsValidFrom task task.start list

-- the sum of the costs of a list's actions, repeats counted
abbrev pub cost_of : TaskMeaning → List ℕ → ℕ
cost_of task [] = 0
cost_of task (action ∷ list) = price task action + cost_of task list

-- each number of the set is below the bound
abbrev pub AllBelow : ℕ → Numbers → Type 0
AllBelow bound numbers = (k : ℕ) → set.contains numbers k ≡ true → k < bound

-- what an action may name in a task with this number of atoms
pub record IsAction (atoms : ℕ) (action : ActionMeaning) : Type 0 where
  pub pre : AllBelow (atoms + 1) action.pre
  pub add : AllBelow atoms action.add
  pub del : AllBelow (atoms + 1) action.del
  pub cost : unwrap_or action.cost 0 < 2 ^ 32

-- each number of a task is in its range, and one number more than its atoms fits in 32 bits
pub record IsTask (task : TaskMeaning) : Type 0 where
  pub few_atoms : task.atoms + 1 < 2 ^ 32
  pub few_actions : length task.actions < 2 ^ 32
  pub start : AllBelow task.atoms task.start
  pub goal : AllBelow (task.atoms + 1) task.goal
  pub each : (action : ℕ) → IsAction task.atoms (action_at task action)

-- a set of numbers as wide as each bit set of the task, with room for the number that is never true
abbrev pub as_bits : TaskMeaning → Numbers → BitSet
as_bits task numbers = record { width = task.atoms + 1; members = numbers }

-- the atom is the least of the wanted ones that the state lacks
pub record IsLeastMissing (wanted state : Numbers) (atom : ℕ) : Type 0 where
  pub is_wanted : set.contains wanted atom ≡ true
  pub is_missing : set.contains state atom ≡ false
  pub is_least : (lower : ℕ) → lower < atom → set.contains wanted lower ≡ true
      → set.contains state lower ≡ true

-- the least wanted atom that the state lacks, or None if it has them all
abbrev pub IsFirstLack : Numbers → Numbers → Option ℕ → Type 0
IsFirstLack wanted state None = set.is_subset wanted state ≡ true
IsFirstLack wanted state (Some atom) = IsLeastMissing wanted state atom
