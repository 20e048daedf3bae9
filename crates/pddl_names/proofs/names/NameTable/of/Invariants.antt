use Rattle.pddl_names.proofs.TableLemmas.{IsTableFrom}
use Rattle.pddl_names.proofs.names.NameTable.of.Given as goal

abbrev pub invariant-loop-place : goal.invariant-loop-place
invariant-loop-place g l = IsTableFrom g.T.Named.name_of l.entries l.place l.table
