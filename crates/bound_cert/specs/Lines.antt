-- The lines of a bound proof, the rules of each line, and the first fault: the first line that
-- breaks a rule, with the first rule that it breaks.
use Rattle.std.specs.Prelude.{ℕ, ◌+◌, ◌≡◌, ◌≤◌, ◌<◌, true, false, List, [], ◌∷◌, ◌++◌, length, All}
use Rattle.std.specs.Prelude.{◌⊎◌}
use Rattle.std.specs.FinSet as set
use Rattle.task_kit.specs.Tasks.{Numbers, TaskMeaning, price, applies, after}
use Rattle.task_kit.specs.Bounds.{IsExpanded, IsKnownWithin, NumberedState}
use Rattle.task_kit.specs.Cuts.{CutMeaning, counts, weight_of, weights}
use Rattle.task_kit.specs.Kept.{cuts_meaning}
use Rattle.bound_cert.specs.declared.proof.BoundState.{BoundState}
use Rattle.bound_cert.specs.declared.proof.How.{How}
use Rattle.bound_cert.specs.declared.proof.How.TheVariants as hows
use Rattle.bound_cert.specs.declared.proof.BoundRule.{BoundRule}
use Rattle.bound_cert.specs.declared.proof.BoundRule.TheVariants as rules
use Rattle.bound_cert.specs.declared.proof.BoundFault.{BoundFault}
use Rattle.bound_cert.specs.Proven.{numbered, IsThere}

-- a line: of the bound itself, of an expanded state, of a pruned state with its cuts, or of a cut
-- of a state after other cuts
pub data Line : Type 0 where
  Own : Line
  OfExpanded : NumberedState → Line
  OfPruned : NumberedState → List CutMeaning → Line
  OfCut : Numbers → List CutMeaning → CutMeaning → Line

-- the lines of a state's cuts, after some cuts of the state
abbrev pub cut_lines : Numbers → List CutMeaning → List CutMeaning → List Line
cut_lines state before [] = []
cut_lines state before (cut ∷ cuts) =
    OfCut state before cut ∷ cut_lines state (before ++ cut ∷ []) cuts

-- the lines of a state, expanded or pruned
abbrev pub lines_by : ℕ → NumberedState → How → List Line
lines_by atoms state hows.Expanded = OfExpanded state ∷ []
lines_by atoms state (hows.Pruned cuts) =
    OfPruned state (cuts_meaning atoms cuts) ∷ cut_lines state.state [] (cuts_meaning atoms cuts)

-- the lines of a state of a task with this number of atoms
abbrev pub state_lines : ℕ → BoundState → List Line
state_lines atoms s = lines_by atoms (numbered s) s.how

-- the lines of the states, one state after another
abbrev pub lines : ℕ → List BoundState → List Line
lines atoms [] = []
lines atoms (s ∷ states) = state_lines atoms s ++ lines atoms states

-- the lines of a bound proof
abbrev pub proof_lines : ℕ → List BoundState → List Line
proof_lines atoms states = Own ∷ lines atoms states

-- the action applies in the state, and its successor costs less than k and isn't listed with its
-- cost or a smaller number
pub record LacksSuccessor (task : TaskMeaning) (k : ℕ) (states : List BoundState) (state : Numbers)
    (number action : ℕ) : Type 0 where
  pub does : applies task action state ≡ true
  pub cheap : number + price task action < k
  pub unknown : ¬ IsKnownWithin (IsThere states) (after task action state)
      (number + price task action)

-- the line breaks the rule
abbrev pub Breaks : TaskMeaning → ℕ → List BoundState → BoundRule → Line → Type 0
Breaks task k states rules.Start Own = (0 < k) × ¬ IsThere states task.start 0
Breaks task k states rules.Below (OfExpanded s) = k ≤ s.number
Breaks task k states rules.Below (OfPruned s cuts) = k ≤ s.number
Breaks task k states rules.Goal (OfExpanded s) = set.is_subset task.goal s.state ≡ true
Breaks task k states rules.Successor (OfExpanded s) =
    (action : ℕ) × LacksSuccessor task k states s.state s.number action
Breaks task k states rules.Sum (OfPruned s cuts) = s.number + weights cuts < k
Breaks task k states rules.Cut (OfCut state before cut) =
    (set.is_subset state cut.among ≡ false) ⊎ (set.is_subset task.goal cut.among ≡ true)
Breaks task k states rules.Charge (OfCut state before cut) =
    (action : ℕ) × (price task action < weight_of (counts task action) (before ++ cut ∷ []))
Breaks task k states rule line = ⊥

-- the place of a rule in the order of rules
abbrev pub rank : BoundRule → ℕ
rank rules.Start = 0
rank rules.Below = 1
rank rules.Goal = 2
rank rules.Successor = 3
rank rules.Sum = 4
rank rules.Cut = 5
rank rules.Charge = 6

-- the line breaks the rule and no rule before it
pub record BreaksFirst (task : TaskMeaning) (k : ℕ) (states : List BoundState) (line : Line)
    (rule : BoundRule) : Type 0 where
  pub breaks : Breaks task k states rule line
  pub first : (earlier : BoundRule) → rank earlier < rank rule → ¬ Breaks task k states earlier line

-- the line keeps every rule
abbrev pub Keeps : TaskMeaning → ℕ → List BoundState → Line → Type 0
Keeps task k states Own = 0 < k → IsThere states task.start 0
Keeps task k states (OfExpanded s) =
    (s.number < k) × IsExpanded task k (IsThere states) s.state s.number
Keeps task k states (OfPruned s cuts) = (s.number < k) × (k ≤ s.number + weights cuts)
Keeps task k states (OfCut state before cut) =
    (set.is_subset state cut.among ≡ true) × (set.is_subset task.goal cut.among ≡ false)
    × ((action : ℕ) → weight_of (counts task action) (before ++ cut ∷ []) ≤ price task action)

-- the fault is at the first of the lines that breaks a rule, counted from a number on
pub record IsFirstFault (task : TaskMeaning) (k : ℕ) (states : List BoundState) (lines : List Line)
    (from : ℕ) (fault : BoundFault) : Type 0 where
  pub before : List Line
  pub line : Line
  pub later : List Line
  pub here : lines ≡ before ++ line ∷ later
  pub counted : fault.line ≡ from + length before
  pub unbroken : All (λ l. (rule : BoundRule) → ¬ Breaks task k states rule l) before
  pub broken : BreaksFirst task k states line fault.rule

-- the fault is at the first line of the proof that breaks a rule, the bound's own line being 1
abbrev pub IsFaultOf : TaskMeaning → ℕ → List BoundState → BoundFault → Type 0
IsFaultOf task k states fault = IsFirstFault task k states (proof_lines task.atoms states) 1 fault
