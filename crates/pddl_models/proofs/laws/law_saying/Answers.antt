use Rattle.pddl_models.proofs.SomeModel.{some_domain, some_model}
use Rattle.pddl_models.proofs.laws.law_saying.Goals as goal

pub returns : goal.returns
returns c = record { some_domain = some_domain; some_model = some_model }
