use Rattle.table_explanations.proofs.OnceLemmas.{once_law}
use Rattle.table_explanations.proofs.laws.law_once.Goals as goal

pub returns : goal.returns
returns c = once_law
