use Rattle.ground_core.proofs.RunLemmas.{cheapest_law}
use Rattle.ground_core.proofs.laws.law_cheapest.Goals as goal

pub returns : goal.returns
returns c = cheapest_law
