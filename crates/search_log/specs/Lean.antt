-- Bound proofs and lists that are lean by a log: they speak of no more states than a search had to
-- expand.
use Rattle.std.specs.Prelude.{ℕ, ◌≡◌, ◌≢◌, ◌≤◌, ◌<◌, true, List, length, take, All, Contains, ◌⊎◌}
use Rattle.std.specs.List.Sorted.{IsStrictlyIncreasing}
use Rattle.mre_base.specs.declared.node.Node.{Node}
use Rattle.cube_kit.specs.Cubes.{CubeMeaning}
use Rattle.task_kit.specs.declared.cut.Cut.{Cut}
use Rattle.task_kit.specs.Judged.{state_after}
use Rattle.task_kit.specs.Kept.{cuts_meaning}
use Rattle.task_kit.specs.Tasks.{Numbers, TaskMeaning, applies, after}
use Rattle.relax_cuts.specs.Lean.{AreLean}
use Rattle.bound_cert.specs.declared.proof.BoundProof.{BoundProof}
use Rattle.bound_cert.specs.declared.proof.BoundState.{BoundState}
use Rattle.bound_cert.specs.declared.proof.How.{How}
use Rattle.bound_cert.specs.declared.proof.How.TheVariants as hows
use Rattle.bound_cert.specs.Formed.{IsFormed}
use Rattle.bound_cert.specs.Proven.{IsBoundProof}
use Rattle.search_log.specs.Due.{IsLogged}

-- an expanded state of the proof has the state as a successor
pub record IsSuccessor (task : TaskMeaning) (states : List BoundState)
    (state : Numbers) : Type 0 where
  pub from : BoundState
  pub action : ℕ
  pub there : Contains states from
  pub expanded : from.how ≡ hows.Expanded
  pub does : applies task action from.state.members ≡ true
  pub is : state ≡ after task action from.state.members

-- each cut weighs something and lists atoms in ascending order, and each uses up the cost of an
-- action, but the last one may count no action
pub record AreLeanCuts (task : TaskMeaning) (cuts : List Cut) : Type 0 where
  pub above_0 : All (λ cut. 0 < cut.weight) cuts
  pub ascending : All (λ cut. IsStrictlyIncreasing cut.lacks) cuts
  pub lean : AreLean task (cuts_meaning task.atoms cuts)

-- an expanded state is logged; a pruned one is the first state or a successor of an expanded one,
-- and its cuts are lean
abbrev pub IsLeanState : TaskMeaning → CubeMeaning → List Node → List BoundState → Numbers → How
    → Type 0
IsLeanState task c log states state hows.Expanded = IsLogged task c log state
IsLeanState task c log states state (hows.Pruned cuts) =
    ((state ≡ task.start) ⊎ IsSuccessor task states state) × AreLeanCuts task cuts

-- the proof shows the bound in the task, is in order, and is lean by the log
pub record IsLeanProof (task : TaskMeaning) (c : CubeMeaning) (k : ℕ) (log : List Node)
    (proof : BoundProof) : Type 0 where
  pub bound : proof.k ≡ k
  pub proves : IsBoundProof task k proof.states
  pub formed : IsFormed task proof.states
  pub lean : All (λ s. IsLeanState task c log proof.states s.state.members s.how) proof.states

-- the state that the first steps of a list lead to
abbrev pub state_at : TaskMeaning → List ℕ → ℕ → Numbers
state_at task list i = state_after task task.start (take i list)

-- the states on the way of the list differ, and all but the last are logged
pub record IsLeanList (task : TaskMeaning) (c : CubeMeaning) (log : List Node)
    (list : List ℕ) : Type 0 where
  pub expanded : (i : ℕ) → i < length list → IsLogged task c log (state_at task list i)
  pub apart : (i j : ℕ) → i < j → j ≤ length list → state_at task list i ≢ state_at task list j
