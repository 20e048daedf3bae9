use Rattle.std.proofs.Common.{refl}
use Rattle.pddl_vocabulary.specs.VocabularyTypes.{type_number}
use Rattle.pddl_vocabulary.specs.VocabularyLists.{entries_said}
use Rattle.pddl_vocabulary.proofs.GatherLemmas.{Gathered}
use Rattle.pddl_vocabulary.proofs.vocabulary_lists.entries_of.Given as goal

abbrev pub invariant-loop-place : goal.invariant-loop-place
invariant-loop-place l = Gathered (entries_said (type_number l.types) l.kind) refl l.words (entries_said (type_number l.types) l.kind l.words) l.place l.made
