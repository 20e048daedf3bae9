use Rattle.search_log.proofs.ClosureLemmas.{closure_law}
use Rattle.search_log.proofs.laws.law_closures.Goals as goal

pub returns : goal.returns
returns c = closure_law
