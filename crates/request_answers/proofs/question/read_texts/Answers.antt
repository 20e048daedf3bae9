use Rattle.std.proofs.Common.{ℕ, List, Vec, map}
use Rattle.std.specs.declared.alloc.Global.{Global}
use Rattle.std.proofs.lemmas.Result.{IfErr-weaker}
use Rattle.request_answers.specs.Steps.{IsOfPlanText, IsOfQuestion}
use Rattle.request_answers.proofs.Misreading.{of_steps}
use Rattle.request_answers.proofs.question.read_texts.Goals as goal

pub returns-clause-err : goal.returns-clause-err
returns-clause-err c =
    let texts : List (List ℕ) = map (λ (bytes : Vec ℕ Global). bytes.items) c.args.contents.now in
    let models = c.in_ok-models.models in
    IfErr-weaker c.with_plan.result (IsOfPlanText c.args.request.now texts models.planner) (IsOfQuestion c.args.request.now texts)
    (of_steps texts c.args.request.now models.planner models.user c.in_ok-models.ensures.ok) c.with_plan.ensures.err
