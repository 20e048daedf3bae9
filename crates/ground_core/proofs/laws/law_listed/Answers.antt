use Rattle.ground_core.proofs.RunLemmas.{listed_law}
use Rattle.ground_core.proofs.laws.law_listed.Goals as goal

pub returns : goal.returns
returns c = listed_law
