use Rattle.std.proofs.Common.{◌≡◌, ◌*◌, length}
use Rattle.case_kit.specs.Evaluated.{relaxed}
use Rattle.cow_models.specs.Rows.{AreFrom}
use Rattle.cow_models.proofs.making.actions_of_row.Given as goal

abbrev pub invariant-loop-place : goal.invariant-loop-place
invariant-loop-place l = record {
  number : length l.made ≡ l.place;
  each : AreFrom (relaxed l.way l.table l.cube) (16 * l.row) l.made;
}
