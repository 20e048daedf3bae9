use Rattle.std.proofs.lemmas.Result.{IfOk-weaker}
use Rattle.model_kit.specs.Pairs.{Agree}
use Rattle.joint_models.specs.declared.group.Group.TheVariants.{Types, Objects, Actions, Predicates, Functions}
use Rattle.joint_models.specs.Disagreements.{AgreeIn, IsFirstIn, IsFirstDisagreement}
use Rattle.joint_models.proofs.Alikeness.{agree_from, told_disagree}
use Rattle.joint_models.proofs.Told.{differs_then, differs_weaker, told_types, told_objects, told_actions, told_predicates, told_functions}
use Rattle.joint_models.proofs.agreeing.agree.Goals as goal

pub returns-in-Err-clause-disagree : goal.returns-in-Err-clause-disagree
returns-in-Err-clause-disagree c =
    differs_then (IsFirstIn Types c.args.planner.now c.args.user.now) (λ fault. ¬ Agree c.args.planner.now c.args.user.now) c.in-Err.stop c.in-Err.ensures.differs
    (λ fault first. told_disagree c.args.planner.now c.args.user.now fault (told_types c.args.planner.now c.args.user.now fault first))

pub returns-in-Err-compare-clause-differs : goal.returns-in-Err-compare-clause-differs
returns-in-Err-compare-clause-differs c =
    differs_then (IsFirstIn Objects c.args.planner.now c.args.user.now) (IsFirstDisagreement c.args.planner.now c.args.user.now) c.in-Err-compare.stop c.in-Err-compare.ensures.differs (told_objects c.args.planner.now c.args.user.now c.in_default.ensures.ok)

pub returns-in-Err-compare-clause-disagree : goal.returns-in-Err-compare-clause-disagree
returns-in-Err-compare-clause-disagree c =
    differs_then (IsFirstIn Objects c.args.planner.now c.args.user.now) (λ fault. ¬ Agree c.args.planner.now c.args.user.now) c.in-Err-compare.stop c.in-Err-compare.ensures.differs
    (λ fault first. told_disagree c.args.planner.now c.args.user.now fault (told_objects c.args.planner.now c.args.user.now c.in_default.ensures.ok fault first))

pub returns-in-Err-compare-2-clause-differs : goal.returns-in-Err-compare-2-clause-differs
returns-in-Err-compare-2-clause-differs c =
    differs_then (IsFirstIn Actions c.args.planner.now c.args.user.now) (IsFirstDisagreement c.args.planner.now c.args.user.now) c.in-Err-compare-2.stop c.in-Err-compare-2.ensures.differs (told_actions c.args.planner.now c.args.user.now c.in_default.ensures.ok c.in_default-compare.ensures.ok)

pub returns-in-Err-compare-2-clause-disagree : goal.returns-in-Err-compare-2-clause-disagree
returns-in-Err-compare-2-clause-disagree c =
    differs_then (IsFirstIn Actions c.args.planner.now c.args.user.now) (λ fault. ¬ Agree c.args.planner.now c.args.user.now) c.in-Err-compare-2.stop c.in-Err-compare-2.ensures.differs
    (λ fault first. told_disagree c.args.planner.now c.args.user.now fault (told_actions c.args.planner.now c.args.user.now c.in_default.ensures.ok c.in_default-compare.ensures.ok fault first))

pub returns-in-Err-compare-3-clause-differs : goal.returns-in-Err-compare-3-clause-differs
returns-in-Err-compare-3-clause-differs c =
    differs_then (IsFirstIn Predicates c.args.planner.now c.args.user.now) (IsFirstDisagreement c.args.planner.now c.args.user.now) c.in-Err-compare-3.stop c.in-Err-compare-3.ensures.differs (told_predicates c.args.planner.now c.args.user.now c.in_default.ensures.ok c.in_default-compare.ensures.ok c.in_default-compare-2.ensures.ok)

pub returns-in-Err-compare-3-clause-disagree : goal.returns-in-Err-compare-3-clause-disagree
returns-in-Err-compare-3-clause-disagree c =
    differs_then (IsFirstIn Predicates c.args.planner.now c.args.user.now) (λ fault. ¬ Agree c.args.planner.now c.args.user.now) c.in-Err-compare-3.stop c.in-Err-compare-3.ensures.differs
    (λ fault first. told_disagree c.args.planner.now c.args.user.now fault (told_predicates c.args.planner.now c.args.user.now c.in_default.ensures.ok c.in_default-compare.ensures.ok c.in_default-compare-2.ensures.ok fault first))

pub returns-clause-ok : goal.returns-clause-ok
returns-clause-ok c =
    IfOk-weaker c.compare-5.result (λ _. AgreeIn Functions c.args.planner.now c.args.user.now) (λ _. Agree c.args.planner.now c.args.user.now)
    (λ _ functions. agree_from c.args.planner.now c.args.user.now c.in_default.ensures.ok c.in_default-compare.ensures.ok c.in_default-compare-2.ensures.ok c.in_default-compare-3.ensures.ok functions)
    c.compare-5.ensures.ok

pub returns-clause-differs : goal.returns-clause-differs
returns-clause-differs c =
    differs_weaker (IsFirstIn Functions c.args.planner.now c.args.user.now) (IsFirstDisagreement c.args.planner.now c.args.user.now) c.compare-5.result c.compare-5.ensures.differs
    (told_functions c.args.planner.now c.args.user.now c.in_default.ensures.ok c.in_default-compare.ensures.ok c.in_default-compare-2.ensures.ok c.in_default-compare-3.ensures.ok)

pub returns-clause-disagree : goal.returns-clause-disagree
returns-clause-disagree c =
    differs_weaker (IsFirstIn Functions c.args.planner.now c.args.user.now) (λ fault. ¬ Agree c.args.planner.now c.args.user.now) c.compare-5.result c.compare-5.ensures.differs
    (λ fault first. told_disagree c.args.planner.now c.args.user.now fault (told_functions c.args.planner.now c.args.user.now c.in_default.ensures.ok c.in_default-compare.ensures.ok c.in_default-compare-2.ensures.ok c.in_default-compare-3.ensures.ok fault first))
