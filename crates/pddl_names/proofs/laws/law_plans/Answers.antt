use Rattle.pddl_text.proofs.ExactLemmas.{either, never_both, same_value, same_fault}
use Rattle.pddl_names.specs.PlanNames.{IsPlanText, IsFirstFault}
use Rattle.pddl_names.specs.Reading.{read_of}
use Rattle.pddl_names.proofs.PlanLemmas.{text_exact}
use Rattle.pddl_names.proofs.laws.law_plans.Goals as goal

pub returns : goal.returns
returns c = record {
  either = λ words bytes. either (read_of words bytes) (IsPlanText words bytes) (IsFirstFault words bytes) (text_exact words bytes);
  never_both = λ words bytes. never_both (read_of words bytes) (IsPlanText words bytes) (IsFirstFault words bytes) (text_exact words bytes);
  one_plan = λ words bytes. same_value (read_of words bytes) (IsPlanText words bytes) (IsFirstFault words bytes) (text_exact words bytes);
  one_fault = λ words bytes. same_fault (read_of words bytes) (IsPlanText words bytes) (IsFirstFault words bytes) (text_exact words bytes);
}
