use Rattle.std.proofs.Common.{[]}
use Rattle.pddl_text.proofs.ExactLemmas.{either, never_both, same_value, same_fault}
use Rattle.pddl_names.specs.PlanNames.{IsPlan, IsFirstMisnamed}
use Rattle.pddl_names.specs.Reading.{steps_from}
use Rattle.pddl_names.proofs.PlanLemmas.{steps_exact}
use Rattle.pddl_names.proofs.laws.law_steps.Goals as goal

pub returns : goal.returns
returns c = record {
  either = λ words lines named. either (steps_from words [] lines) (IsPlan words lines) (IsFirstMisnamed words lines) (steps_exact words lines named);
  never_both = λ words lines steps fault named. never_both (steps_from words [] lines) (IsPlan words lines) (IsFirstMisnamed words lines) (steps_exact words lines named) steps fault;
  one_plan = λ words lines one two named. same_value (steps_from words [] lines) (IsPlan words lines) (IsFirstMisnamed words lines) (steps_exact words lines named) one two;
  one_fault = λ words lines one two named. same_fault (steps_from words [] lines) (IsPlan words lines) (IsFirstMisnamed words lines) (steps_exact words lines named) one two;
}
