use Rattle.case_kit.proofs.RelaxedLemmas.{relaxed_law}
use Rattle.case_kit.proofs.laws.law_relaxed.Goals as goal

pub returns : goal.returns
returns c = relaxed_law
