use Rattle.pddl_names.proofs.KindLemmas.{ArePlacesFrom}
use Rattle.pddl_names.proofs.names.NameTable.of_kind.Given as goal

abbrev pub invariant-loop-place : goal.invariant-loop-place
invariant-loop-place l = ArePlacesFrom l.kind l.words l.place l.table
