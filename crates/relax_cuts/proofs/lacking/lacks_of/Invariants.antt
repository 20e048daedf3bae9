use Rattle.relax_cuts.proofs.LackLemmas.{ListsLacks}
use Rattle.relax_cuts.proofs.lacking.lacks_of.Given as goal

abbrev pub invariant-loop-atom : goal.invariant-loop-atom
invariant-loop-atom l = ListsLacks l.atom l.among.members l.lacks
