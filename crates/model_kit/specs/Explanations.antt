-- Complete and monotonic sets of differences, and the first of them (after Chakraborti et al.,
-- IJCAI 2017).
use Rattle.std.specs.Prelude.{ℕ, ◌≡◌, ◌≢◌, ◌≤◌, List, length, All, IsTrue}
use Rattle.std.specs.Ordering.{nat_cmp}
use Rattle.std.specs.FinSet as set
use Rattle.mre_base.specs.Before.{is_before}
use Rattle.model_kit.specs.declared.vocabulary.Vocabulary.{Vocabulary}
use Rattle.model_kit.specs.declared.action.GroundAction.{GroundAction}
use Rattle.model_kit.specs.Places.{Place, Meaning}
use Rattle.model_kit.specs.Differences.{AreDifferences, patched}
use Rattle.model_kit.specs.Runs.{IsCheapest}

-- two models over one vocabulary, their differences, the weight of each difference, and a plan
pub record Task : Type 0 where
  pub words : Vocabulary
  pub planner : Meaning
  pub user : Meaning
  pub places : List Place
  pub weights : List ℕ
  pub plan : List GroundAction

-- each difference has one weight, 1 to 1000000
pub record AreWeights (places : List Place) (weights : List ℕ) : Type 0 where
  pub one_each : length weights ≡ length places
  pub sized : All (λ w. (1 ≤ w) × (w ≤ 1000000)) weights

-- the list is that of all differences, and each has its weight
pub record IsPosed (task : Task) : Type 0 where
  pub differences : AreDifferences task.words task.planner task.user task.places
  pub weights : AreWeights task.places task.weights

-- the numbers are among those of the differences, which count from 1
abbrev pub IsWithin : Task → set.FinSet nat_cmp → Type 0
IsWithin task told = (k : ℕ) → IsTrue (set.contains told k) → (1 ≤ k) × (k ≤ length task.places)

-- the plan is cheapest in the user's model after these differences
abbrev pub IsComplete : Task → set.FinSet nat_cmp → Type 0
IsComplete task told =
    IsCheapest task.words (patched task.planner task.user task.places told) task.plan

-- complete, whichever further differences are told
abbrev pub IsMonotonic : Task → set.FinSet nat_cmp → Type 0
IsMonotonic task told =
    (more : set.FinSet nat_cmp) → IsWithin task more → IsTrue (set.is_subset told more)
    → IsComplete task more

-- the set has the property, and is before each other set that has it
pub record IsFirst (task : Task) (P : set.FinSet nat_cmp → Type 0)
    (told : set.FinSet nat_cmp) : Type 0 where
  pub within : IsWithin task told
  pub has : P told
  pub first : (other : set.FinSet nat_cmp) → IsWithin task other → P other → other ≢ told
      → IsTrue (is_before task.weights told other)

-- the minimally complete explanation, and the minimally monotonic one
abbrev pub IsMCE : Task → set.FinSet nat_cmp → Type 0
IsMCE task = IsFirst task (IsComplete task)

abbrev pub IsMME : Task → set.FinSet nat_cmp → Type 0
IsMME task = IsFirst task (IsMonotonic task)
