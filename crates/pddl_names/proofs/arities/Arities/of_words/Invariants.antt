use Rattle.pddl_names.proofs.ArityLemmas.{AreAritiesFrom}
use Rattle.pddl_names.proofs.arities.Arities.of_words.Given as goal

abbrev pub invariant-loop-place : goal.invariant-loop-place
invariant-loop-place l = AreAritiesFrom l.kind l.words l.place l.made
