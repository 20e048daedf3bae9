use Rattle.case_kit.proofs.ChildLemmas.{child_law}
use Rattle.case_kit.proofs.laws.law_child.Goals as goal

pub returns : goal.returns
returns c = child_law
