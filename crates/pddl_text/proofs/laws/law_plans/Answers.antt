use Rattle.pddl_text.specs.PlanReading.{lines_of}
use Rattle.pddl_text.specs.Plans.{SpellsPlan, LeavesPlan}
use Rattle.pddl_text.proofs.ExactLemmas.{either, never_both, same_value, same_fault}
use Rattle.pddl_text.proofs.PlanLemmas.{plan_exact}
use Rattle.pddl_text.proofs.laws.law_plans.Goals as goal

pub returns : goal.returns
returns c = record {
  either = λ bytes. either (lines_of bytes) (SpellsPlan bytes) (LeavesPlan bytes) (plan_exact bytes);
  never_both = λ bytes. never_both (lines_of bytes) (SpellsPlan bytes) (LeavesPlan bytes) (plan_exact bytes);
  one_plan = λ bytes. same_value (lines_of bytes) (SpellsPlan bytes) (LeavesPlan bytes) (plan_exact bytes);
  one_fault = λ bytes. same_fault (lines_of bytes) (SpellsPlan bytes) (LeavesPlan bytes) (plan_exact bytes);
}
