use Rattle.std.proofs.Common.{drop}
use Rattle.pddl_names.specs.Calls.{AreCallsFrom}
use Rattle.pddl_names.proofs.values_twice.call_table.Given as goal

abbrev pub invariant-loop-place : goal.invariant-loop-place
invariant-loop-place l = AreCallsFrom l.place (drop l.place l.words) l.table
