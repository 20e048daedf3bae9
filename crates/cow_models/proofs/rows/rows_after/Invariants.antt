use Rattle.std.proofs.Common.{◌≡◌, ◌+◌, ◌*◌, ℕ, List, Some, length}
use Rattle.std.specs.Prelude.{slice_get}
use Rattle.task_kit.specs.declared.action.TaskAction.{TaskAction}
use Rattle.cow_models.specs.Changed.{IsChanged}
use Rattle.cow_models.specs.Touched.{touched_first}
use Rattle.cow_models.proofs.rows.rows_after.Given as goal

abbrev pub invariant-loop-row : goal.invariant-loop-row
invariant-loop-row g l = record {
  number : length l.made ≡ l.row;
  each : (k : ℕ) (one other : List TaskAction) → slice_get l.rows k ≡ Some one → slice_get l.made k ≡ Some other → IsChanged l.table l.cube l.way l.place (16 * k) one other;
  steps : l.steps ≡ l.fn.steps + touched_first l.table l.place l.row;
}
