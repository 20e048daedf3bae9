use Rattle.pddl_vocabulary.proofs.SomeVocabulary.{some_words, some_more}
use Rattle.pddl_vocabulary.proofs.laws.law_vocabularies.Goals as goal

pub returns : goal.returns
returns c = record { some = some_words; more = some_more }
