use Rattle.std.proofs.Common.{drop, refl}
use Rattle.pddl_vocabulary.proofs.GatherLemmas.{own_numbers, Gathered}
use Rattle.pddl_vocabulary.proofs.vocabulary_lists.own_types.Given as goal

abbrev pub invariant-loop-place : goal.invariant-loop-place
invariant-loop-place l = Gathered (own_numbers l.types) refl l.words (own_numbers l.types (drop l.fn.start l.words)) l.place l.made
