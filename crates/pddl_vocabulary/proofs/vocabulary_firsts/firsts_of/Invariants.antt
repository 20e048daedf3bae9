use Rattle.std.proofs.Common.{◌≡◌, take}
use Rattle.pddl_vocabulary.specs.Values.{firsts}
use Rattle.pddl_vocabulary.specs.VocabularyFirsts.{same_by}
use Rattle.pddl_vocabulary.proofs.vocabulary_firsts.firsts_of.Given as goal

abbrev pub invariant-loop-place : goal.invariant-loop-place
invariant-loop-place g l = l.made ≡ firsts (same_by g.T.Named.name_of) (take l.place l.entries)
