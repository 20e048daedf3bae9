-- The judgement of a list of actions on a task: that the list is valid and its cost, or the first
-- place where it fails.
use Rattle.std.specs.Prelude.{ℕ, ◌+◌, ◌≡◌, ◌≤◌, Bool, true, false, List, [], ◌∷◌, take, Option, Some}
use Rattle.std.specs.Prelude.{None, slice_get}
use Rattle.std.specs.FinSet as set
use Rattle.task_kit.specs.declared.judging.Judgement.{Judgement}
use Rattle.task_kit.specs.declared.judging.Judgement.TheVariants as judgements
use Rattle.task_kit.specs.Tasks.{Numbers, IsLeastMissing, TaskMeaning, action_at, cost_at, applies}
use Rattle.task_kit.specs.Tasks.{after, IsValid, cost_of}

-- the state to which the actions lead, one after another
abbrev pub state_after : TaskMeaning → Numbers → List ℕ → Numbers
state_after task state [] = state
state_after task state (action ∷ list) = state_after task (after task action state) list

-- each action applies in the state to which the ones before it lead
abbrev pub DoApply : TaskMeaning → Numbers → List ℕ → Type 0
DoApply task state [] = Unit {0}
DoApply task state (action ∷ list) =
    (applies task action state ≡ true) × DoApply task (after task action state) list

-- the steps before this one, counted from 1, apply, and its action has the fault in the state to
-- which they lead
pub record StopsAt (task : TaskMeaning) (list : List ℕ) (step : ℕ)
    (Fault : ℕ → Numbers → Type 0) : Type 0 where
  pub place : ℕ
  pub action : ℕ
  pub counted : step ≡ place + 1
  pub here : slice_get list place ≡ Some action
  pub before : DoApply task task.start (take place list)
  pub fault : Fault action (state_after task task.start (take place list))

-- the fault of a step by an action in a state: it lacks a precondition, or has them all but no cost
abbrev pub IsFaultOf : TaskMeaning → ℕ → Numbers → ℕ → Judgement → Type 0
IsFaultOf task action state step (judgements.Valid cost) = ⊥
IsFaultOf task action state step (judgements.Fails at atom) =
    (at ≡ step) × IsLeastMissing (action_at task action).pre state atom
IsFaultOf task action state step (judgements.NoCost at) =
    (at ≡ step) × (set.is_subset (action_at task action).pre state ≡ true)
    × (cost_at task action ≡ None)
IsFaultOf task action state step (judgements.GoalMissing atom) = ⊥

-- the judgement is right
abbrev pub IsJudged : TaskMeaning → List ℕ → Judgement → Type 0
IsJudged task list (judgements.Valid cost) = IsValid task list × (cost ≡ cost_of task list)
IsJudged task list (judgements.Fails step atom) =
    StopsAt task list step (λ action state. IsLeastMissing (action_at task action).pre state atom)
IsJudged task list (judgements.NoCost step) =
    StopsAt task list step (λ action state. (set.is_subset (action_at task action).pre state ≡ true)
    × (cost_at task action ≡ None))
IsJudged task list (judgements.GoalMissing atom) =
    DoApply task task.start list × IsLeastMissing task.goal (state_after task task.start list) atom

-- the judgement says that the list is valid
abbrev pub says_valid : Judgement → Bool
says_valid (judgements.Valid cost) = true
says_valid (judgements.Fails step atom) = false
says_valid (judgements.NoCost step) = false
says_valid (judgements.GoalMissing atom) = false

-- if the list is valid, it costs no more than this
abbrev pub CostsAtMost : ℕ → Judgement → Type 0
CostsAtMost most (judgements.Valid cost) = cost ≤ most
CostsAtMost most (judgements.Fails step atom) = Unit {0}
CostsAtMost most (judgements.NoCost step) = Unit {0}
CostsAtMost most (judgements.GoalMissing atom) = Unit {0}

-- why a step, counted from 1, can't be made by an action in a state, or None if the action applies
-- there
abbrev pub IsStepFault : TaskMeaning → ℕ → Numbers → ℕ → Option Judgement → Type 0
IsStepFault task action state step None = applies task action state ≡ true
IsStepFault task action state step (Some fault) = IsFaultOf task action state step fault
