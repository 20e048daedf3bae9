use Rattle.std.proofs.Common.{◌≡◌, map, take}
use Rattle.pddl_vocabulary.specs.VocabularyTypes.{type_number}
use Rattle.pddl_vocabulary.specs.VocabularyLists.{type_said}
use Rattle.pddl_vocabulary.proofs.vocabulary_types.types_of.Given as goal

abbrev pub invariant-loop-place : goal.invariant-loop-place
invariant-loop-place l = l.made ≡ map (type_said (type_number l.types) l.words) (take l.place l.names)
