use Rattle.std.proofs.Common.{ℕ, List, Vec, map, rules}
use Rattle.std.specs.declared.alloc.Global.{Global}
use Rattle.pddl_read.specs.Texts.{IsDomainFault, IsProblemFault}
use Rattle.request_answers.specs.Texts.{text_at, planner_domain, planner_problem, user_domain, user_problem}
use Rattle.request_answers.specs.Steps.{IsOfModels}
use Rattle.request_answers.proofs.Misreading.{of_text}
use Rattle.request_answers.proofs.texts.read_models.Goals as goal

pub returns-in_err-domain-clause-err : goal.returns-in_err-domain-clause-err
returns-in_err-domain-clause-err c =
    let texts : List (List ℕ) = map (λ (bytes : Vec ℕ Global). bytes.items) c.args.contents.now in
    let stop = c.in_err-domain.field-0.0 in
    let cause : IsOfModels texts stop = of_text texts 0 (IsDomainFault (text_at texts 0)) (λ fault is. planner_domain is) stop c.in_err-domain.ensures.err in
    search rules

pub returns-in_err-planner-clause-err : goal.returns-in_err-planner-clause-err
returns-in_err-planner-clause-err c =
    let texts : List (List ℕ) = map (λ (bytes : Vec ℕ Global). bytes.items) c.args.contents.now in
    let stop = c.in_err-planner.field-0.0 in
    let cause : IsOfModels texts stop =
    of_text texts 1 (IsProblemFault c.in_ok-domain.domain (text_at texts 1)) (λ fault is. planner_problem c.in_ok-domain.domain c.in_ok-domain.ensures.ok is) stop c.in_err-planner.ensures.err in
    search rules

pub returns-in_err-other-clause-err : goal.returns-in_err-other-clause-err
returns-in_err-other-clause-err c =
    let texts : List (List ℕ) = map (λ (bytes : Vec ℕ Global). bytes.items) c.args.contents.now in
    let stop = c.in_err-other.field-0.0 in
    let cause : IsOfModels texts stop =
    of_text texts 2 (IsDomainFault (text_at texts 2))
    (λ fault is. user_domain c.in_ok-domain.domain c.in_ok-planner.planner c.in_ok-domain.ensures.ok c.in_ok-planner.ensures.ok is) stop c.in_err-other.ensures.err in
    search rules

pub returns-clause-ok : goal.returns-clause-ok
returns-clause-ok c = record {
  planner_domain = c.in_ok-domain.domain;
  user_domain = c.in_ok-other.other;
  pd = c.in_ok-domain.ensures.ok;
  pp = c.in_ok-planner.ensures.ok;
  ud = c.in_ok-other.ensures.ok;
  up = c.in_ok-user.ensures.ok;
}

pub returns-in_err-user-clause-err : goal.returns-in_err-user-clause-err
returns-in_err-user-clause-err c =
    let texts : List (List ℕ) = map (λ (bytes : Vec ℕ Global). bytes.items) c.args.contents.now in
    let stop = c.in_err-user.field-0.0 in
    let cause : IsOfModels texts stop =
    of_text texts 3 (IsProblemFault c.in_ok-other.other (text_at texts 3))
    (λ fault is. user_problem c.in_ok-domain.domain c.in_ok-other.other c.in_ok-planner.planner c.in_ok-domain.ensures.ok c.in_ok-planner.ensures.ok c.in_ok-other.ensures.ok is) stop c.in_err-user.ensures.err in
    search rules
