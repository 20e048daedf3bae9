use Rattle.std.proofs.Common.{subst, rules}
use Rattle.model_kit.specs.declared.model.Model.{Model}
use Rattle.model_kit.specs.Places.{meaning}
use Rattle.model_kit.specs.Runs.{IsValid}
use Rattle.request_answers.specs.Steps.{IsOfPlan}
use Rattle.request_answers.proofs.answering.list_valid.Goals as goal

pub returns-clause-valid : goal.returns-clause-valid
returns-clause-valid c =
    subst (λ (model : Model). IsValid (meaning model) c.args.question.now.plan.steps) c.planner.ensures c.in_ok-judge.ensures.valid

pub returns-in_err-judge-clause-err : goal.returns-in_err-judge-clause-err
returns-in_err-judge-clause-err c =
    let stop = c.in_err-judge.field-0.0 in
    let planner = c.args.question.now.pair.planner in
    let cause : IsOfPlan planner.words (meaning planner) c.args.question.now.plan.steps stop =
    subst (λ (model : Model). IsOfPlan model.words (meaning model) c.args.question.now.plan.steps stop) c.planner.ensures c.in_err-judge.ensures.err in
    search rules
