use Rattle.pddl_names.proofs.ArityLemmas.{HasBaseFrom}
use Rattle.pddl_names.proofs.arities.Arities.with_base.Given as goal

abbrev pub invariant-loop-place : goal.invariant-loop-place
invariant-loop-place l = HasBaseFrom l.base l.fn.self l.place l.made
