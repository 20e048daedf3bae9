use Rattle.std.proofs.Common.{length}
use Rattle.feature_diff.specs.Rows.{IsTable}
use Rattle.feature_diff.proofs.rows.align.Given as goal

abbrev pub invariant-loop-place : goal.invariant-loop-place
invariant-loop-place l = IsTable l.planner l.place l.user 0 l.table

abbrev pub invariant-loop-place-2 : goal.invariant-loop-place-2
invariant-loop-place-2 l = IsTable l.planner (length l.planner) l.user l.place l.table
