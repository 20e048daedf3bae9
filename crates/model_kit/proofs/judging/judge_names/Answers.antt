use Rattle.std.proofs.Common.{◌+◌, ◌<◌, ◌^◌, sym, refl, subst, arith}
use Rattle.std.specs.Prelude.{All}
use Rattle.model_kit.specs.declared.judging.NamedJudgement.TheVariants.{Valid, Fails, NoCost, GoalMissing}
use Rattle.model_kit.specs.declared.judging.Step.TheVariants.{Taken, Unmet, Unpriced}
use Rattle.model_kit.specs.Places.{meaning}
use Rattle.model_kit.specs.Judgement.{IsFirstPrinted}
use Rattle.model_kit.specs.Judging.{StateOf, IsMissing, Steps}
use Rattle.model_kit.proofs.ActionLemmas.{some_holds, none_holds}
use Rattle.model_kit.proofs.ModelFacts.{facts_of_model}
use Rattle.model_kit.proofs.JudgeLemmas.{judgement_once}
use Rattle.model_kit.proofs.JudgingLemmas.{Reached, reached_more, fails_here, no_cost_here, valid_at_end, open_at_end}
use Rattle.model_kit.proofs.NamedLemmas.{judged_ground}
use Rattle.model_kit.proofs.judging.judge_names.Goals as goal

pub returns-in-Unmet-clause-judged : goal.returns-in-Unmet-clause-judged
returns-in-Unmet-clause-judged c =
    let said : Steps c.args.model.now.words (meaning c.args.model.now) c.item-action.result.now c.loop-place.state c.take_step.new.state (Unmet c.in-Unmet.atom) =
    subst (Steps c.args.model.now.words (meaning c.args.model.now) c.item-action.result.now c.loop-place.state c.take_step.new.state) c.in-Unmet.is c.in_ok-more.ensures.ok in
    fails_here (meaning c.args.model.now) c.args.plan.now.steps c.loop-place.place c.item-action.result.now c.item-action.ensures c.loop-place.state c.loop-place.cost c.loop-place.invariant
    c.args.model.now.words c.take_step.new.state c.in-Unmet.atom said (c.loop-place.place + 1) refl

pub returns-in-Unmet-clause-fits : goal.returns-in-Unmet-clause-fits
returns-in-Unmet-clause-fits c = judged_ground c.args.model.now c.args.plan.now.steps c.requires.fits (Fails (c.loop-place.place + 1) c.in-Unmet.atom) (returns-in-Unmet-clause-judged c)

pub returns-in-Unmet-clause-only : goal.returns-in-Unmet-clause-only
returns-in-Unmet-clause-only c = λ other said.
    judgement_once c.args.model.now.words (meaning c.args.model.now) c.args.plan.now.steps other (Fails (c.loop-place.place + 1) c.in-Unmet.atom) said (returns-in-Unmet-clause-judged c)

pub returns-in-Unpriced-clause-judged : goal.returns-in-Unpriced-clause-judged
returns-in-Unpriced-clause-judged c =
    let said : Steps c.args.model.now.words (meaning c.args.model.now) c.item-action.result.now c.loop-place.state c.take_step.new.state Unpriced =
    subst (Steps c.args.model.now.words (meaning c.args.model.now) c.item-action.result.now c.loop-place.state c.take_step.new.state) c.in-Unpriced.is c.in_ok-more.ensures.ok in
    no_cost_here (meaning c.args.model.now) c.args.plan.now.steps c.loop-place.place c.item-action.result.now c.item-action.ensures c.loop-place.state c.loop-place.cost c.loop-place.invariant
    c.args.model.now.words c.take_step.new.state said (c.loop-place.place + 1) refl

pub returns-in-Unpriced-clause-only : goal.returns-in-Unpriced-clause-only
returns-in-Unpriced-clause-only c = λ other said.
    judgement_once c.args.model.now.words (meaning c.args.model.now) c.args.plan.now.steps other (NoCost (c.loop-place.place + 1)) said (returns-in-Unpriced-clause-judged c)

pub loop-place-preserved : goal.loop-place-preserved
loop-place-preserved c =
    let said : Steps c.args.model.now.words (meaning c.args.model.now) c.item-action.result.now c.loop-place.state c.take_step.new.state (Taken c.in-Taken.more) =
    subst (Steps c.args.model.now.words (meaning c.args.model.now) c.item-action.result.now c.loop-place.state c.take_step.new.state) c.in-Taken.is c.in_ok-more.ensures.ok in
    let small : c.in-Taken.more < 2 ^ 32 = omega arith in
    let more = reached_more (meaning c.args.model.now) c.args.plan.now.steps c.loop-place.place c.item-action.result.now c.item-action.ensures c.loop-place.state c.loop-place.cost c.loop-place.invariant
    c.args.model.now.words c.take_step.new.state c.in-Taken.more small said in
    subst (λ price. Reached (meaning c.args.model.now) c.args.plan.now.steps (c.loop-place.place + 1) c.take_step.new.state (c.loop-place.cost + price)) (sym c.from-cost.ensures) more

pub first_missing-requires : goal.first_missing-requires
first_missing-requires c = let facts = facts_of_model c.args.model.now in facts.goal_kept.fit

pub returns-in-Some-clause-judged : goal.returns-in-Some-clause-judged
returns-in-Some-clause-judged c =
    open_at_end c.args.model.now c.args.plan.now.steps c.loop-place.place c.loop-place.state c.loop-place.cost c.loop-place.invariant (omega arith) c.args.model.now.words c.in-Some.atom
    (some_holds (IsFirstPrinted c.args.model.now.words (IsMissing c.args.model.now.goal c.loop-place.state)) _ _ c.in-Some.is c.in_ok-atom.ensures.first)

pub returns-in-Some-clause-fits : goal.returns-in-Some-clause-fits
returns-in-Some-clause-fits c = judged_ground c.args.model.now c.args.plan.now.steps c.requires.fits (GoalMissing c.in-Some.atom) (returns-in-Some-clause-judged c)

pub returns-in-Some-clause-only : goal.returns-in-Some-clause-only
returns-in-Some-clause-only c = λ other said.
    judgement_once c.args.model.now.words (meaning c.args.model.now) c.args.plan.now.steps other (GoalMissing c.in-Some.atom) said (returns-in-Some-clause-judged c)

pub returns-clause-judged : goal.returns-clause-judged
returns-clause-judged c =
    valid_at_end c.args.model.now c.args.plan.now.steps c.loop-place.place c.loop-place.state c.loop-place.cost c.loop-place.invariant (omega arith)
    (none_holds (All (StateOf c.loop-place.state) c.args.model.now.goal) _ c.in-None.is c.in_ok-atom.ensures.none) c.args.model.now.words

pub returns-clause-only : goal.returns-clause-only
returns-clause-only c = λ other said.
    judgement_once c.args.model.now.words (meaning c.args.model.now) c.args.plan.now.steps other (Valid c.loop-place.cost) said (returns-clause-judged c)
