use Rattle.std.proofs.Common.{drop, refl}
use Rattle.pddl_vocabulary.proofs.GatherLemmas.{action_numbers, Gathered}
use Rattle.pddl_vocabulary.proofs.vocabulary_lists.action_types.Given as goal

abbrev pub invariant-loop-place : goal.invariant-loop-place
invariant-loop-place l = Gathered (action_numbers l.types) refl l.words (action_numbers l.types (drop l.fn.start l.words)) l.place l.made
