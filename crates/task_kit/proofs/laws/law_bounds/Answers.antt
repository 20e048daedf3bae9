use Rattle.task_kit.proofs.BoundLemmas.{bound_law}
use Rattle.task_kit.proofs.laws.law_bounds.Goals as goal

pub returns : goal.returns
returns c = bound_law
