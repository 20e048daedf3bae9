use Rattle.ground_core.proofs.RunLemmas.{explanation_law}
use Rattle.ground_core.proofs.laws.law_explanations.Goals as goal

pub returns : goal.returns
returns c = explanation_law
