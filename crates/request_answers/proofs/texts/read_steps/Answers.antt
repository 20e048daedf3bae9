use Rattle.std.proofs.Common.{◌∙◌, sym, refl, subst}
use Rattle.pddl_names.specs.PlanNames.{IsFirstFault}
use Rattle.request_answers.proofs.texts.read_steps.Goals as goal

pub returns-in-Err-Fault-clause-err : goal.returns-in-Err-Fault-clause-err
returns-in-Err-Fault-clause-err c = record {
  asked = sym c.has_plan.ensures ∙ c.if-not-has_plan.false;
  here = refl;
  fault_is = subst (λ bytes. IsFirstFault c.args.planner.now.words bytes c.in-Err-Fault.fault) c.content.ensures.value
      (rw c.in-Err-Fault.field-0-is at c.in-Err-Fault.ensures.fault);
}
