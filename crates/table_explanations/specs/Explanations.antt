-- Complete and monotonic sets of the differences of a case table, and the first of them (after
-- Chakraborti et al., IJCAI 2017). A set is complete if telling it makes the plan cheapest; it is
-- monotonic if it stays complete whichever further differences are told.
use Rattle.std.specs.Prelude.{ℕ, ◌≡◌, ◌≢◌, true, List, length, replicate}
use Rattle.std.specs.FinSet as set
use Rattle.mre_base.specs.Before.{is_before}
use Rattle.cube_kit.specs.Cubes as cubes
use Rattle.cube_kit.specs.Cubes.{Told}
use Rattle.cube_kit.specs.Weighing.{AreWeights}
use Rattle.task_kit.specs.Tasks.{TaskMeaning, IsValid, cost_of}
use Rattle.task_kit.specs.Bounds.{HasNoCheaper}
use Rattle.case_kit.specs.declared.table.CaseTable.{CaseTable}
use Rattle.case_kit.specs.Members.{member}

-- a model reconciliation task on numbers: the tasks of all sets of differences, a plan as its
-- actions' numbers, and the weight of each difference, from difference 1 on
pub record Reconciliation : Type 0 where
  pub table : CaseTable
  pub plan : List ℕ
  pub weights : List ℕ

-- the plan is valid in a task, and no valid list costs less
pub record IsCheapest (task : TaskMeaning) (plan : List ℕ) : Type 0 where
  pub valid : IsValid task plan
  pub least : HasNoCheaper task (cost_of task plan)

-- the numbers of the set are among those of the differences, which count from 1
abbrev pub IsWithin : Reconciliation → Told → Type 0
IsWithin q told = cubes.IsWithin q.table.d told

-- the plan is cheapest after the set is told
abbrev pub IsComplete : Reconciliation → Told → Type 0
IsComplete q told = IsCheapest (member q.table told) q.plan

-- complete, whichever further differences are told
abbrev pub IsMonotonic : Reconciliation → Told → Type 0
IsMonotonic q told =
    (more : Told) → IsWithin q more → set.is_subset told more ≡ true → IsComplete q more

-- the set has the property, and is before each other set that has it
pub record IsFirst (q : Reconciliation) (P : Told → Type 0) (told : Told) : Type 0 where
  pub within : IsWithin q told
  pub has : P told
  pub first : (other : Told) → IsWithin q other → P other → other ≢ told
      → is_before q.weights told other ≡ true

-- the minimally complete explanation, and the minimally monotonic one
abbrev pub IsMCE : Reconciliation → Told → Type 0
IsMCE q = IsFirst q (IsComplete q)

abbrev pub IsMME : Reconciliation → Told → Type 0
IsMME q = IsFirst q (IsMonotonic q)

-- each difference has one weight, 1 to 1000000
pub record IsWeighed (q : Reconciliation) : Type 0 where
  pub one_each : length q.weights ≡ q.table.d
  pub sized : AreWeights q.weights

-- each difference weighs 1
abbrev pub even : CaseTable → List ℕ → Reconciliation
even table plan = record { table = table; plan = plan; weights = replicate table.d 1 }
