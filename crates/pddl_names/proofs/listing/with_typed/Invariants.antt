use Rattle.pddl_names.proofs.KnownLemmas.{TypedTo}
use Rattle.pddl_names.proofs.listing.with_typed.Given as goal

abbrev pub invariant-loop-place : goal.invariant-loop-place
invariant-loop-place l = TypedTo l.kind l.words l.fn.entries l.place l.made
