use Rattle.named_tables.proofs.LawLemmas.{run_law}
use Rattle.named_tables.proofs.laws.law_runs.Goals as goal

pub returns : goal.returns
returns c = run_law
