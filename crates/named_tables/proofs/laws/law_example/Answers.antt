use Rattle.named_tables.proofs.ExampleLemmas.{example_law}
use Rattle.named_tables.proofs.laws.law_example.Goals as goal

pub returns : goal.returns
returns c = example_law
