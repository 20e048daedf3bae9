use Rattle.std.proofs.Common.{◌≡◌, ◌++◌, take}
use Rattle.std.specs.Prelude.{filter}
use Rattle.pddl_vocabulary.specs.VocabularyFirsts.{is_no_entry}
use Rattle.pddl_vocabulary.proofs.vocabulary_firsts.with_further.Given as goal

abbrev pub invariant-loop-place : goal.invariant-loop-place
invariant-loop-place l = l.made ≡ l.objects ++ filter (is_no_entry l.objects) (take l.place l.further)
