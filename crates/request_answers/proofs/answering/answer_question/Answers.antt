use Rattle.std.proofs.lemmas.Result.{IfErr-weaker}
use Rattle.request_answers.specs.Making.{IsOfMaking, IsOfAnswering, made}
use Rattle.request_answers.proofs.answering.answer_question.Goals as goal

pub returns-clause-err : goal.returns-clause-err
returns-clause-err c =
    IfErr-weaker c.answer_counted.result (IsOfMaking c.args.request.now c.args.question.now c.in_ok-differences.differences) (IsOfAnswering c.args.request.now c.args.question.now)
    (λ stop of. made c.in_ok-differences.differences c.in_ok-differences.ensures.ok of) c.answer_counted.ensures.err
