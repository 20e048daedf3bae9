use Rattle.std.proofs.Common.{◌≡◌, ◌+◌, ◌≤◌, drop}
use Rattle.pddl_text.specs.PlanReading.{rows_from, lines_of}
use Rattle.pddl_text.specs.Plans.{rows_of}
use Rattle.pddl_text.proofs.RowLemmas.{IsOneRow}
use Rattle.pddl_text.proofs.plan.read_rows.Given as goal

abbrev pub invariant-loop-place : goal.invariant-loop-place
invariant-loop-place l = record {
  within : l.first ≤ l.place;
  row : IsOneRow l.bytes l.first l.place;
  read : rows_from l.lines l.line (rows_of (drop l.first l.bytes)) ≡ lines_of l.bytes;
  line : l.line ≤ l.place + 1;
}
