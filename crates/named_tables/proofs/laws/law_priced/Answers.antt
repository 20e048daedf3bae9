use Rattle.named_tables.proofs.PriceLemmas.{priced_law}
use Rattle.named_tables.proofs.laws.law_priced.Goals as goal

pub returns : goal.returns
returns c = priced_law
