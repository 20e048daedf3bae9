use Rattle.case_kit.proofs.SumLemmas.{sum_law}
use Rattle.case_kit.proofs.laws.law_sums.Goals as goal

pub returns : goal.returns
returns c = sum_law
