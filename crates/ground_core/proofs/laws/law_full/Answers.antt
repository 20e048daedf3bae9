use Rattle.ground_core.proofs.FullLemmas.{listed_all_law, full_law}
use Rattle.ground_core.proofs.laws.law_full.Goals as goal

pub returns : goal.returns
returns c = record { listed = listed_all_law; decided = full_law }
