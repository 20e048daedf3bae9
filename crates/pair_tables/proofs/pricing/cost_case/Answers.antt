use Rattle.std.proofs.Common.{◌<◌, ◌∙◌, length, refl, sym, ap, subst}
use Rattle.std.specs.Prelude.{slice_get}
use Rattle.model_kit.specs.Vocabulary.{IsGroundAction, is_object_of}
use Rattle.model_kit.proofs.Fits.{signature_listed}
use Rattle.pair_tables.proofs.SchemaLemmas.{schema_within}
use Rattle.pair_tables.proofs.PriceLemmas.{placed_by, cost_same, cost_two}
use Rattle.pair_tables.proofs.pricing.cost_case.Goals as goal

pub item-requires : goal.item-requires
item-requires c =
    let action = c.args.action.now in
    let words = c.args.pair.now.planner.words in
    schema_within c.args.pair.now.planner c.planner.result.now action.schema c.planner.ensures (signature_listed (is_object_of words) words.actions action.schema action.objects c.requires.fits)

pub value_case-requires-clause-placed : goal.value_case-requires-clause-placed
value_case-requires-clause-placed c =
    placed_by c.args.pair.now.planner c.args.action.now c.requires.fits c.item.result.now (ap (λ m. slice_get m.schemas c.args.action.now.schema) (sym c.planner.ensures) ∙ c.item.ensures) c.item.result.now.cost refl

pub item-requires-in-Some : goal.item-requires-in-Some
item-requires-in-Some c =
    let action = c.args.action.now in
    let words = c.args.pair.now.planner.words in
    schema_within c.args.pair.now.user c.user.result.now action.schema c.user.ensures
    (subst (λ w. action.schema < length w.actions) (sym c.args.pair.now.joint) (signature_listed (is_object_of words) words.actions action.schema action.objects c.requires.fits))

pub value_case-requires-in-Some-clause-placed : goal.value_case-requires-in-Some-clause-placed
value_case-requires-in-Some-clause-placed c =
    placed_by c.args.pair.now.user c.args.action.now (subst (λ w. IsGroundAction w c.args.action.now) (sym c.args.pair.now.joint) c.requires.fits) c.item-in-Some.result.now
    (ap (λ m. slice_get m.schemas c.args.action.now.schema) (sym c.user.ensures) ∙ c.item-in-Some.ensures) c.item-in-Some.result.now.cost refl

pub returns-in-None : goal.returns-in-None
returns-in-None c =
    cost_same c.args.pair.now.planner c.args.pair.now.user c.args.differences.now c.requires.all c.args.action.now c.item.result.now (ap (λ m. slice_get m.schemas c.args.action.now.schema) (sym c.planner.ensures) ∙ c.item.ensures)
    c.args.cases.now.cost c.requires.cases.cost c.in_ok-told.told c.in_ok-told.ensures c.in-None.is

pub returns-in_ok-left-in-Some : goal.returns-in_ok-left-in-Some
returns-in_ok-left-in-Some c =
    cost_two c.args.pair.now.planner c.args.pair.now.user c.args.differences.now c.requires.all c.args.action.now c.item.result.now (ap (λ m. slice_get m.schemas c.args.action.now.schema) (sym c.planner.ensures) ∙ c.item.ensures)
    c.args.cases.now.cost c.requires.cases.cost c.in_ok-told.told c.in_ok-told.ensures c.in-Some.place c.in-Some.is c.item-in-Some.result.now
    (ap (λ m. slice_get m.schemas c.args.action.now.schema) (sym c.user.ensures) ∙ c.item-in-Some.ensures) c.in_ok-left-in-Some.left c.in_ok-left-in-Some.ensures
