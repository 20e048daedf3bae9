use Rattle.std.proofs.Common.{length, sym, ap, ◌∙◌, subst, arith, rules}
use Rattle.model_kit.specs.declared.model.Model.{Model}
use Rattle.model_kit.specs.declared.vocabulary.Vocabulary.{Vocabulary}
use Rattle.model_kit.specs.Places.{meaning}
use Rattle.model_kit.specs.Runs.{IsValid, cost}
use Rattle.ground_core.specs.Names.{AreNamed, AreListed}
use Rattle.request_answers.specs.Steps.{IsOfPlan, IsOfSearch}
use Rattle.request_answers.proofs.Grounded.{steps_listed, plan_listed, plan_short, plan_valid, plan_costs, steps_cheapest, names_are}
use Rattle.request_answers.proofs.StopLemmas.{of_plan, of_list}
use Rattle.request_answers.proofs.explaining.search.Goals as goal

pub returns-in_err-cost-clause-err : goal.returns-in_err-cost-clause-err
returns-in_err-cost-clause-err c =
    let question = c.args.question.now in
    let planner = question.pair.planner in
    let stop = c.in_err-cost.field-0.0 in
    let cause : IsOfSearch planner question.plan.steps (length c.args.differences.now) stop =
    of_plan planner question.plan.steps (length c.args.differences.now) stop
    (subst (λ (model : Model). IsOfPlan model.words (meaning model) question.plan.steps stop) c.planner.ensures c.in_err-cost.ensures.err) in
    search rules

pub number_plan-requires : goal.number_plan-requires
number_plan-requires c =
    let question = c.args.question.now in
    let planner = question.pair.planner in
    let steps = question.plan.steps in
    let valid = subst (λ (model : Model). IsValid (meaning model) steps) c.planner.ensures c.in_ok-cost.ensures.valid in
    record {
      listed = subst (λ (words : Vocabulary). AreListed words c.args.ground.now.names.actions.items steps) (sym c.words-words.ensures)
          (steps_listed planner question.pair.user c.args.differences.now c.args.ground.now c.requires.ground c.requires.limits.all steps c.requires.fits valid);
    }

pub refuse_cheaper-requires-clause-named : goal.refuse_cheaper-requires-clause-named
refuse_cheaper-requires-clause-named c = names_are c.args.question.now.pair.planner c.args.question.now.pair.user c.args.differences.now c.args.ground.now c.requires.ground

pub refuse_cheaper-requires-clause-listed : goal.refuse_cheaper-requires-clause-listed
refuse_cheaper-requires-clause-listed c =
    let question = c.args.question.now in
    let plan = c.in_ok-plan.plan in
    let named = subst (λ (words : Vocabulary). AreNamed words c.args.ground.now.names.actions.items plan question.plan.steps) c.words-words.ensures c.in_ok-plan.ensures.ok in
    plan_listed question.pair.planner question.pair.user c.args.differences.now c.args.ground.now c.requires.ground c.requires.limits.all question.plan.steps c.requires.fits plan named

pub refuse_cheaper-requires-clause-short : goal.refuse_cheaper-requires-clause-short
refuse_cheaper-requires-clause-short c =
    let question = c.args.question.now in
    let plan = c.in_ok-plan.plan in
    let named = subst (λ (words : Vocabulary). AreNamed words c.args.ground.now.names.actions.items plan question.plan.steps) c.words-words.ensures c.in_ok-plan.ensures.ok in
    plan_short question.pair.planner question.pair.user c.args.differences.now c.args.ground.now c.requires.ground c.requires.limits.all question.plan.steps c.requires.fits plan named c.requires.limits.short

pub refuse_cheaper-requires-clause-valid : goal.refuse_cheaper-requires-clause-valid
refuse_cheaper-requires-clause-valid c =
    let question = c.args.question.now in
    let plan = c.in_ok-plan.plan in
    let named = subst (λ (words : Vocabulary). AreNamed words c.args.ground.now.names.actions.items plan question.plan.steps) c.words-words.ensures c.in_ok-plan.ensures.ok in
    plan_valid question.pair.planner question.pair.user c.args.differences.now c.args.ground.now c.requires.ground c.requires.limits.all question.plan.steps c.requires.fits plan named
    (subst (λ (model : Model). IsValid (meaning model) question.plan.steps) c.planner.ensures c.in_ok-cost.ensures.valid)

pub refuse_cheaper-requires-clause-cost : goal.refuse_cheaper-requires-clause-cost
refuse_cheaper-requires-clause-cost c =
    let question = c.args.question.now in
    let plan = c.in_ok-plan.plan in
    let named = subst (λ (words : Vocabulary). AreNamed words c.args.ground.now.names.actions.items plan question.plan.steps) c.words-words.ensures c.in_ok-plan.ensures.ok in
    plan_costs question.pair.planner question.pair.user c.args.differences.now c.args.ground.now c.requires.ground c.requires.limits.all question.plan.steps c.requires.fits plan named c.in_ok-cost.cost
    (c.in_ok-cost.ensures.cost ∙ ap (λ (model : Model). cost (meaning model) question.plan.steps) c.planner.ensures)

pub returns-in_err-refuse_cheaper-clause-err : goal.returns-in_err-refuse_cheaper-clause-err
returns-in_err-refuse_cheaper-clause-err c =
    let question = c.args.question.now in
    let planner = question.pair.planner in
    let stop = c.in_err-refuse_cheaper.field-0.0 in
    let cause : IsOfSearch planner question.plan.steps (length c.args.differences.now) stop =
    of_list planner question.plan.steps (length c.args.differences.now) question.pair.user c.args.differences.now c.args.ground.now c.requires.ground c.requires.limits.all
    (subst (λ (model : Model). IsValid (meaning model) question.plan.steps) c.planner.ensures c.in_ok-cost.ensures.valid) c.in_ok-cost.cost
    (c.in_ok-cost.ensures.cost ∙ ap (λ (model : Model). cost (meaning model) question.plan.steps) c.planner.ensures) stop c.in_err-refuse_cheaper.ensures.err in
    search rules

pub returns-then-len-gt-MOST_TRIED-clause-err : goal.returns-then-len-gt-MOST_TRIED-clause-err
returns-then-len-gt-MOST_TRIED-clause-err c =
    let question = c.args.question.now in
    let plan = c.in_ok-plan.plan in
    let named = subst (λ (words : Vocabulary). AreNamed words c.args.ground.now.names.actions.items plan question.plan.steps) c.words-words.ensures c.in_ok-plan.ensures.ok in (
      steps_cheapest question.pair.planner question.pair.user c.args.differences.now c.args.ground.now c.requires.ground c.requires.limits.all question.plan.steps c.requires.fits plan named c.in_ok-refuse_cheaper.ensures.ok,
      omega (arith, c.if-len-gt-MOST_TRIED.true, c.len.ensures),
    )

pub first-requires-clause-listed : goal.first-requires-clause-listed
first-requires-clause-listed c =
    let question = c.args.question.now in
    let plan = c.in_ok-plan.plan in
    let named = subst (λ (words : Vocabulary). AreNamed words c.args.ground.now.names.actions.items plan question.plan.steps) c.words-words.ensures c.in_ok-plan.ensures.ok in
    plan_listed question.pair.planner question.pair.user c.args.differences.now c.args.ground.now c.requires.ground c.requires.limits.all question.plan.steps c.requires.fits plan named

pub first-requires-clause-short : goal.first-requires-clause-short
first-requires-clause-short c =
    let question = c.args.question.now in
    let plan = c.in_ok-plan.plan in
    let named = subst (λ (words : Vocabulary). AreNamed words c.args.ground.now.names.actions.items plan question.plan.steps) c.words-words.ensures c.in_ok-plan.ensures.ok in
    plan_short question.pair.planner question.pair.user c.args.differences.now c.args.ground.now c.requires.ground c.requires.limits.all question.plan.steps c.requires.fits plan named c.requires.limits.short

pub returns-clause-cheapest : goal.returns-clause-cheapest
returns-clause-cheapest c =
    let question = c.args.question.now in
    let plan = c.in_ok-plan.plan in
    let named = subst (λ (words : Vocabulary). AreNamed words c.args.ground.now.names.actions.items plan question.plan.steps) c.words-words.ensures c.in_ok-plan.ensures.ok in
    steps_cheapest question.pair.planner question.pair.user c.args.differences.now c.args.ground.now c.requires.ground c.requires.limits.all question.plan.steps c.requires.fits plan named c.in_ok-refuse_cheaper.ensures.ok
