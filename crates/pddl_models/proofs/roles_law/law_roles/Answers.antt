use Rattle.pddl_models.proofs.RoleLemmas.{are_no_totals, are_of_problem}
use Rattle.pddl_models.proofs.roles_law.law_roles.Goals as goal

pub returns : goal.returns
returns c = record { calls = are_no_totals; problem = are_of_problem }
