use Rattle.pddl_text.specs.Forests.{tokens_of_all}
use Rattle.pddl_text.proofs.ExactLemmas.{either, never_both, same_value, same_fault}
use Rattle.pddl_form.specs.First.{HasForm, LeavesForm}
use Rattle.pddl_form.specs.Runs.{form_of}
use Rattle.pddl_form.proofs.FirstLemmas.{form_exact, whole_meetable}
use Rattle.pddl_form.proofs.laws.law_forms.Goals as goal

pub returns : goal.returns
returns c = record {
  either = λ start whole forest. either (form_of start forest) (HasForm start (tokens_of_all forest.trees)) (LeavesForm start forest) (form_exact start (whole_meetable whole) forest);
  never_both = λ start whole forest. never_both (form_of start forest) (HasForm start (tokens_of_all forest.trees)) (LeavesForm start forest) (form_exact start (whole_meetable whole) forest);
  one_list = λ start whole forest. same_value (form_of start forest) (HasForm start (tokens_of_all forest.trees)) (LeavesForm start forest) (form_exact start (whole_meetable whole) forest);
  one_fault = λ start whole forest. same_fault (form_of start forest) (HasForm start (tokens_of_all forest.trees)) (LeavesForm start forest) (form_exact start (whole_meetable whole) forest);
}
