-- The laws of case tables.
use Rattle.std.specs.Prelude.{ℕ, ◌≡◌, ◌≤◌, ◌↔◌, true, false, List, Some, slice_get}
use Rattle.std.specs.FinSet as set
use Rattle.mre_base.specs.declared.kind.Side.{Side}
use Rattle.cube_kit.specs.Child.{child}
use Rattle.cube_kit.specs.Cubes.{Told, CubeMeaning, IsCube, is_listed, is_member, is_inside, single}
use Rattle.task_kit.specs.Tasks.{TaskMeaning, action_at, IsValid, cost_of}
use Rattle.case_kit.specs.declared.way.Way.{Way}
use Rattle.case_kit.specs.declared.action.CaseAction.{CaseAction}
use Rattle.case_kit.specs.declared.table.CaseTable.{CaseTable}
use Rattle.case_kit.specs.Parts.{touches}
use Rattle.case_kit.specs.Members.{member}
use Rattle.case_kit.specs.Relaxed.{IsPermissive, IsRestrictive}
use Rattle.case_kit.specs.Evaluated.{permissive, restrictive, relaxed}

-- the permissive and the restrictive task of a cube with members are exactly the tasks that are
-- made case by case
pub record RelaxedLaw : Type 0 where
  pub permissive_is : (table : CaseTable) (cube : CubeMeaning) (task : TaskMeaning)
      → is_member cube cube.told ≡ true →
      IsPermissive table cube task ↔ (task ≡ permissive table cube)
  pub restrictive_is : (table : CaseTable) (cube : CubeMeaning) (task : TaskMeaning)
      → is_member cube cube.told ≡ true →
      IsRestrictive table cube task ↔ (task ≡ restrictive table cube)

-- members that agree on the differences are equal; both tasks of a cube that has decided every
-- difference are the member of its told set
pub record MemberLaw : Type 0 where
  pub agree : (table : CaseTable) (told other : Told)
      → ((place : ℕ) → is_listed table.d place ≡ true
      → set.contains told place ≡ set.contains other place) →
      member table told ≡ member table other
  pub permissive_single : (table : CaseTable) (told : Told)
      → permissive table (single table.d told) ≡ member table told
  pub restrictive_single : (table : CaseTable) (told : Told)
      → restrictive table (single table.d told) ≡ member table told
  pub permissive_decided : (table : CaseTable) (cube : CubeMeaning) → IsCube table.d cube
      → cube.undecided ≡ set.empty → permissive table cube ≡ member table cube.told
  pub restrictive_decided : (table : CaseTable) (cube : CubeMeaning) → IsCube table.d cube
      → cube.undecided ≡ set.empty → restrictive table cube ≡ member table cube.told

-- the list is valid in the task, at this cost or a smaller one
abbrev pub IsValidWithin : TaskMeaning → List ℕ → ℕ → Type 0
IsValidWithin task list cost = IsValid task list × (cost_of task list ≤ cost)

-- a list that is valid in a member is valid in the permissive task, and a list that is valid in the
-- restrictive task is valid in each member, at no greater cost; the same holds for the tasks of an
-- inner cube
pub record ListLaw : Type 0 where
  pub from_member : (table : CaseTable) (cube : CubeMeaning) (told : Told) (list : List ℕ)
      → is_member cube told ≡ true →
      IsValid (member table told) list → IsValidWithin (permissive table cube) list (cost_of
      (member table told) list)
  pub to_member : (table : CaseTable) (cube : CubeMeaning) (told : Told) (list : List ℕ)
      → is_member cube told ≡ true →
      IsValid (restrictive table cube) list
      → IsValidWithin (member table told) list (cost_of (restrictive table cube) list)
  pub from_inner : (table : CaseTable) (inner outer : CubeMeaning) (list : List ℕ)
      → is_member inner inner.told ≡ true → is_inside inner outer ≡ true →
      IsValid (permissive table inner) list
      → IsValidWithin (permissive table outer) list (cost_of (permissive table inner) list)
  pub to_inner : (table : CaseTable) (inner outer : CubeMeaning) (list : List ℕ)
      → is_member inner inner.told ≡ true → is_inside inner outer ≡ true →
      IsValid (restrictive table outer) list
      → IsValidWithin (restrictive table inner) list (cost_of (restrictive table outer) list)

-- deciding one more difference leaves an action unchanged in both tasks if the difference has no
-- part in it
abbrev pub ChildLaw : Type 0
ChildLaw =
    (way : Way) (table : CaseTable) (cube : CubeMeaning) (place : ℕ) (side : Side) (i : ℕ)
    (action : CaseAction) → slice_get table.actions i ≡ Some action
    → touches action place ≡ false →
    action_at (relaxed way table (child cube place side)) i ≡ action_at (relaxed way table cube) i
