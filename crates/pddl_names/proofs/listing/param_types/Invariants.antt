use Rattle.pddl_names.proofs.KnownLemmas.{TypesTo}
use Rattle.pddl_names.proofs.listing.param_types.Given as goal

abbrev pub invariant-loop-place : goal.invariant-loop-place
invariant-loop-place l = TypesTo l.words l.fn.start l.place l.made
