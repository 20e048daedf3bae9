use Rattle.case_kit.proofs.EasierLemmas.{list_law}
use Rattle.case_kit.proofs.laws.law_lists.Goals as goal

pub returns : goal.returns
returns c = list_law
