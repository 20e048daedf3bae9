-- Bound proofs: listed states, each with a number, that together show that no valid list of a task
-- costs less than a bound.
use Rattle.std.specs.Prelude.{ℕ, ◌+◌, ◌≤◌, ◌<◌, List, map, All}
use Rattle.task_kit.specs.Tasks.{Numbers, TaskMeaning}
use Rattle.task_kit.specs.Bounds.{HasNoCheaper, IsExpanded, NumberedState, IsListed}
use Rattle.task_kit.specs.Cuts.{CutMeaning, weights, AreLawful}
use Rattle.task_kit.specs.Kept.{cuts_meaning}
use Rattle.bound_cert.specs.declared.proof.BoundState.{BoundState}
use Rattle.bound_cert.specs.declared.proof.How.{How}
use Rattle.bound_cert.specs.declared.proof.How.TheVariants as hows

-- a state of a proof, with its number
abbrev pub numbered : BoundState → NumberedState
numbered s = record { state = s.state.members; number = s.number }

-- a state is listed with a number
abbrev pub IsThere : List BoundState → Numbers → ℕ → Type 0
IsThere states = IsListed (map numbered states)

-- the cuts are lawful, and the sum of their weights and of the state's number is at least k
pub record IsPruned (task : TaskMeaning) (k : ℕ) (state : Numbers) (number : ℕ)
    (cuts : List CutMeaning) : Type 0 where
  pub lawful : AreLawful task state cuts
  pub enough : k ≤ number + weights cuts

-- the claim of a state, expanded or pruned
abbrev pub IsLeft : TaskMeaning → ℕ → (Numbers → ℕ → Type 0) → Numbers → ℕ → How → Type 0
IsLeft task k known state number hows.Expanded = IsExpanded task k known state number
IsLeft task k known state number (hows.Pruned cuts) =
    IsPruned task k state number (cuts_meaning task.atoms cuts)

-- if k is above 0, the start is listed with 0; each number is below k, and each state is expanded
-- or pruned
pub record IsBoundProof (task : TaskMeaning) (k : ℕ) (states : List BoundState) : Type 0 where
  pub start : 0 < k → IsThere states task.start 0
  pub below : All (λ s. s.number < k) states
  pub each : All (λ s. IsLeft task k (IsThere states) s.state.members s.number s.how) states

-- the law of bound proofs: no valid list, of any length, costs less than the bound
abbrev pub BoundProofLaw : Type 0
BoundProofLaw =
    (task : TaskMeaning) (k : ℕ) (states : List BoundState) → IsBoundProof task k states
    → HasNoCheaper task k
