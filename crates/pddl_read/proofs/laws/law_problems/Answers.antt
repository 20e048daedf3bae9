use Rattle.pddl_read.proofs.ProblemTexts.{either_model, one_model, one_fault, not_both}
use Rattle.pddl_read.proofs.laws.law_problems.Goals as goal

pub returns : goal.returns
returns c = record { either = either_model; never_both = not_both; one_model = one_model; one_fault = one_fault }
