use Rattle.pddl_vocabulary.proofs.FormedLemmas.{are_formed}
use Rattle.pddl_vocabulary.proofs.formed.law_formed.Goals as goal

pub returns : goal.returns
returns c = record { formed = λ start bytes forest met spells form. are_formed start bytes forest met spells form }
