use Rattle.task_kit.proofs.CutLemmas.{cut_law}
use Rattle.task_kit.proofs.laws.law_cuts.Goals as goal

pub returns : goal.returns
returns c = cut_law
