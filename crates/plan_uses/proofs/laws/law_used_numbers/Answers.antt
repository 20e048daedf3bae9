use Rattle.plan_uses.proofs.UsedLemmas.{listed-IsUsedAt}
use Rattle.plan_uses.proofs.laws.law_used_numbers.Goals as goal

pub returns : goal.returns
returns c = λ plan places number. listed-IsUsedAt plan places number
