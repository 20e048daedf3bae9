use Rattle.std.proofs.Common.{◌≡◌, ◌+◌, drop}
use Rattle.pddl_text.specs.PlanReading.{row_from, line_of, state_of}
use Rattle.pddl_text.proofs.plan.read_row.Given as goal

abbrev pub invariant-loop-byte : goal.invariant-loop-byte
invariant-loop-byte l = record {
  read : row_from (state_of l.reader) l.at (drop l.byte-index l.row) ≡ line_of l.line l.row;
  column : l.at.column ≡ l.byte-index + 1;
}
