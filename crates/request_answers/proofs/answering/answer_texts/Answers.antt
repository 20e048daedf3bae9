use Rattle.std.proofs.Common.{ℕ, List, Vec, map, rules}
use Rattle.std.specs.List.{concat}
use Rattle.std.specs.declared.alloc.Global.{Global}
use Rattle.std.proofs.lemmas.Result.{IfOk-weaker, IfErr-weaker}
use Rattle.mre_words.specs.Requests.{count_of}
use Rattle.request_answers.specs.Causes.{IsDue}
use Rattle.request_answers.specs.Lines.{IsOfFile}
use Rattle.request_answers.specs.Making.{IsMadeOf, IsOfAnswering}
use Rattle.request_answers.specs.Outputs.{IsAnswer}
use Rattle.request_answers.proofs.DueLemmas.{due_answering, due_question, made_answer, due_file}
use Rattle.request_answers.proofs.answering.answer_texts.Goals as goal

pub returns-clause-ok : goal.returns-clause-ok
returns-clause-ok c =
    let contents : List (List ℕ) = map (λ (bytes : Vec ℕ Global). bytes.items) c.args.contents.now in
    let question = c.in_ok-question.question in
    let request = c.args.request.now in
    IfOk-weaker c.answer_question.result (λ made. IsMadeOf request question made.told (concat made.lines)) (λ made. IsAnswer request contents made.told (concat made.lines))
    (λ made of. made_answer request contents question c.in_ok-question.ensures.ok made.told (concat made.lines) of) c.answer_question.ensures.ok

pub returns-clause-err : goal.returns-clause-err
returns-clause-err c =
    let contents : List (List ℕ) = map (λ (bytes : Vec ℕ Global). bytes.items) c.args.contents.now in
    let question = c.in_ok-question.question in
    let request = c.args.request.now in
    IfErr-weaker c.answer_question.result (IsOfAnswering request question) (IsDue request contents) (due_answering request contents question c.in_ok-question.ensures.ok) c.answer_question.ensures.err

pub returns-clause-of_file : goal.returns-clause-of_file
returns-clause-of_file c =
    let contents : List (List ℕ) = map (λ (bytes : Vec ℕ Global). bytes.items) c.args.contents.now in
    let question = c.in_ok-question.question in
    let request = c.args.request.now in
    IfErr-weaker c.answer_question.result (IsOfAnswering request question) (IsOfFile (count_of request))
    (λ stop of. due_file request contents stop (due_answering request contents question c.in_ok-question.ensures.ok stop of)) c.answer_question.ensures.err

pub returns-in_err-question-clause-err : goal.returns-in_err-question-clause-err
returns-in_err-question-clause-err c =
    let contents : List (List ℕ) = map (λ (bytes : Vec ℕ Global). bytes.items) c.args.contents.now in
    let stop = c.in_err-question.field-0.0 in
    let cause : IsDue c.args.request.now contents stop = due_question c.args.request.now contents stop c.in_err-question.ensures.err in
    search rules

pub returns-in_err-question-clause-of_file : goal.returns-in_err-question-clause-of_file
returns-in_err-question-clause-of_file c =
    let contents : List (List ℕ) = map (λ (bytes : Vec ℕ Global). bytes.items) c.args.contents.now in
    let stop = c.in_err-question.field-0.0 in
    let named : IsOfFile (count_of c.args.request.now) stop = due_file c.args.request.now contents stop (due_question c.args.request.now contents stop c.in_err-question.ensures.err) in
    search rules
