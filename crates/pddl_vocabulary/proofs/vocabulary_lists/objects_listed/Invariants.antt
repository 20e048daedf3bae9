use Rattle.std.proofs.Common.{refl}
use Rattle.pddl_vocabulary.specs.VocabularyTypes.{type_number}
use Rattle.pddl_vocabulary.specs.VocabularyLists.{objects_numbered}
use Rattle.pddl_vocabulary.proofs.GatherLemmas.{Gathered}
use Rattle.pddl_vocabulary.proofs.vocabulary_lists.objects_listed.Given as goal

abbrev pub invariant-loop-place : goal.invariant-loop-place
invariant-loop-place l = Gathered (objects_numbered (type_number l.types)) refl l.words (objects_numbered (type_number l.types) l.words) l.place l.made
