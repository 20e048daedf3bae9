use Rattle.std.proofs.Common.{ℕ, List, Vec, map}
use Rattle.std.specs.declared.alloc.Global.{Global}
use Rattle.std.proofs.lemmas.Result.{IfOk-weaker, IfErr-weaker}
use Rattle.request_answers.specs.Posing.{IsJoined, IsQuestion}
use Rattle.request_answers.specs.Steps.{IsOfPairing, IsOfQuestion}
use Rattle.request_answers.proofs.QuestionLemmas.{question_of, apart}
use Rattle.request_answers.proofs.question.read_question.Goals as goal

pub returns-clause-ok : goal.returns-clause-ok
returns-clause-ok c =
    let contents : List (List ℕ) = map (λ (bytes : Vec ℕ Global). bytes.items) c.args.contents.now in
    let texts = c.in_ok-texts.texts in
    IfOk-weaker c.join_texts.result (IsJoined texts) (IsQuestion c.args.request.now contents) (question_of c.args.request.now contents texts c.in_ok-texts.ensures.ok) c.join_texts.ensures.ok

pub returns-clause-err : goal.returns-clause-err
returns-clause-err c =
    let contents : List (List ℕ) = map (λ (bytes : Vec ℕ Global). bytes.items) c.args.contents.now in
    let texts = c.in_ok-texts.texts in
    IfErr-weaker c.join_texts.result (IsOfPairing texts.models.planner.words texts.models.user.words) (IsOfQuestion c.args.request.now contents)
    (apart c.args.request.now contents texts c.in_ok-texts.ensures.ok) c.join_texts.ensures.err
