-- Cuts of a state: each shows that some action of a certain kind must still come, and together they
-- bound the cost of every list from the state to the goal.
use Rattle.std.specs.Prelude.{ℕ, ◌+◌, ◌≡◌, ◌≤◌, Bool, true, false, ◌&&◌, cond, List, [], ◌∷◌, All}
use Rattle.std.specs.Ordering.{nat_cmp}
use Rattle.std.specs.FinSet as set
use Rattle.task_kit.specs.Tasks.{Numbers, TaskMeaning, price, applies, adds_outside, IsValidFrom}
use Rattle.task_kit.specs.Tasks.{cost_of}

-- a cut: its weight, and a set of atoms that every list to the goal has to leave
pub record CutMeaning : Type 0 where
  pub weight : ℕ
  pub among : set.FinSet nat_cmp

-- the greatest weight of a cut
abbrev pub most : ℕ
most = 70368744177663

-- the cut counts the action: it applies in the cut's set, and adds an atom outside
abbrev pub counts : TaskMeaning → ℕ → CutMeaning → Bool
counts task action cut = applies task action cut.among && adds_outside task action cut.among

-- the sum of the weights of the cuts that pass a test
abbrev pub weight_of : (CutMeaning → Bool) → List CutMeaning → ℕ
weight_of test [] = 0
weight_of test (cut ∷ cuts) = cond (test cut) cut.weight 0 + weight_of test cuts

-- the sum of all weights
abbrev pub weights : List CutMeaning → ℕ
weights [] = 0
weights (cut ∷ cuts) = cut.weight + weights cuts

-- the cut's set has the state's atoms and lacks a goal atom, and its weight is in its range
pub record IsCutOf (task : TaskMeaning) (state : Numbers) (cut : CutMeaning) : Type 0 where
  pub has_state : set.is_subset state cut.among ≡ true
  pub lacks_goal : set.is_subset task.goal cut.among ≡ false
  pub in_range : cut.weight ≤ most

-- each is a cut of the state, and for each action the cuts that count it weigh at most its cost
pub record AreLawful (task : TaskMeaning) (state : Numbers) (cuts : List CutMeaning) : Type 0 where
  pub each : All (IsCutOf task state) cuts
  pub within : (action : ℕ) → weight_of (counts task action) cuts ≤ price task action

-- the law of cuts: every list from the state to the goal costs at least the sum of the weights of
-- lawful cuts
abbrev pub CutLaw : Type 0
CutLaw =
    (task : TaskMeaning) (state : Numbers) (cuts : List CutMeaning) → AreLawful task state cuts →
    (list : List ℕ) → IsValidFrom task state list → weights cuts ≤ cost_of task list
