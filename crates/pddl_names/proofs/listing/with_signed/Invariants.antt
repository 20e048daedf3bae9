use Rattle.pddl_names.proofs.KnownLemmas.{SignedTo}
use Rattle.pddl_names.proofs.listing.with_signed.Given as goal

abbrev pub invariant-loop-place : goal.invariant-loop-place
invariant-loop-place l = SignedTo l.kind l.words l.fn.entries l.place l.made
