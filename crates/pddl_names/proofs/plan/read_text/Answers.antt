use Rattle.std.proofs.Common.{sym, subst}
use Rattle.pddl_text.specs.Answers.{Gives}
use Rattle.pddl_names.proofs.PlanLemmas.{lines_go_on, form_stops}
use Rattle.pddl_names.proofs.plan.read_text.Goals as goal

pub returns-in-Ok : goal.returns-in-Ok
returns-in-Ok c =
    subst (λ read. Gives c.plan_of.result read) (sym (lines_go_on c.args.words.now c.args.bytes.now c.in-Ok.lines c.in-Ok.ensures.ok)) c.plan_of.ensures

pub returns-in-Err : goal.returns-in-Err
returns-in-Err c = form_stops c.args.words.now c.args.bytes.now c.in-Err.stop c.in-Err.ensures.fault
