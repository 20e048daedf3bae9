use Rattle.std.proofs.Common.{◌≡◌, ◌+◌, length}
use Rattle.case_kit.specs.Evaluated.{relaxed}
use Rattle.cow_models.specs.Rows.{AreRows}
use Rattle.cow_models.proofs.rows.rows_of.Given as goal

abbrev pub invariant-loop-row : goal.invariant-loop-row
invariant-loop-row g l = record {
  number : length l.made ≡ l.row;
  each : AreRows (relaxed l.way l.table l.cube) l.made;
  steps : l.steps ≡ l.fn.steps + l.row;
}
