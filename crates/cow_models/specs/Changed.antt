-- What becomes of the actions of a row when one more difference is decided.
use Rattle.std.specs.Prelude.{ℕ, ◌+◌, ◌*◌, ◌≡◌, true, false, List, length, Some, slice_get}
use Rattle.cube_kit.specs.Cubes.{CubeMeaning}
use Rattle.task_kit.specs.declared.action.TaskAction.{TaskAction}
use Rattle.case_kit.specs.declared.way.Way.{Way}
use Rattle.case_kit.specs.declared.action.CaseAction.{CaseAction}
use Rattle.case_kit.specs.declared.table.CaseTable.{CaseTable}
use Rattle.case_kit.specs.Evaluated.{relaxed}
use Rattle.case_kit.specs.Parts.{touches}
use Rattle.cow_models.specs.Rows.{IsAt}

-- an action in which the difference has a part is the cube's, and each other one is as it was
pub record IsChangedAt (table : CaseTable) (cube : CubeMeaning) (way : Way) (place first : ℕ)
    (old new : List TaskAction) (k : ℕ) : Type 0 where
  pub touched : (action : TaskAction) (cases : CaseAction) → slice_get new k ≡ Some action
      → slice_get table.actions (first + k) ≡ Some cases → touches cases place ≡ true
      → IsAt (relaxed way table cube) (first + k) action
  pub other : (cases : CaseAction) → slice_get table.actions (first + k) ≡ Some cases
      → touches cases place ≡ false → slice_get new k ≡ slice_get old k

-- the actions of a row, of which the first has this number, are changed for the cube
pub record IsChanged (table : CaseTable) (cube : CubeMeaning) (way : Way) (place first : ℕ)
    (old new : List TaskAction) : Type 0 where
  pub same_length : length new ≡ length old
  pub each : (k : ℕ) → IsChangedAt table cube way place first old new k

-- each row is changed for the cube
pub record AreChanged (table : CaseTable) (cube : CubeMeaning) (way : Way) (place : ℕ)
    (old new : List (List TaskAction)) : Type 0 where
  pub same_number : length new ≡ length old
  pub rows : (row : ℕ) (before after : List TaskAction) → slice_get old row ≡ Some before
      → slice_get new row ≡ Some after → IsChanged table cube way place (16 * row) before after
