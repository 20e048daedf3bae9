use Rattle.ground_core.proofs.RunLemmas.{grounding_law}
use Rattle.ground_core.proofs.laws.law_grounding.Goals as goal

pub returns : goal.returns
returns c = grounding_law
