use Rattle.pddl_names.proofs.ParamLemmas.{ParamsBefore}
use Rattle.pddl_names.proofs.names.NameTable.of_params.Given as goal

abbrev pub invariant-loop-place : goal.invariant-loop-place
invariant-loop-place l = ParamsBefore l.words l.fn.start l.place l.table
