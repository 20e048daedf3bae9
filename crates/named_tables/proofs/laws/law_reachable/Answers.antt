use Rattle.named_tables.proofs.WorldLemmas.{reach_law}
use Rattle.named_tables.proofs.laws.law_reachable.Goals as goal

pub returns : goal.returns
returns c = reach_law
