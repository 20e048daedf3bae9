use Rattle.std.proofs.Common.{sym, ap, ◌∙◌}
use Rattle.model_kit.specs.Places.{value_of}
use Rattle.model_kit.proofs.ActionLemmas.{schema_listed, cost_placed, number_cost, call_cost, unknown_cost, unknown_test}
use Rattle.model_kit.proofs.values.price.Goals as goal

pub returns-then-contains : goal.returns-then-contains
returns-then-contains c =
    let listed = unknown_test _ c.args.model.now.unknown c.args.action.now.schema _ _ c.as_slice.ensures c.contains.ensures.value c.if-contains.true in
    record { ok = sym (unknown_cost c.args.model.now c.args.action.now c.requires.fits listed) }

pub item-requires : goal.item-requires
item-requires c = schema_listed c.args.model.now c.args.action.now c.requires.fits

pub arguments-requires : goal.arguments-requires
arguments-requires c = cost_placed c.args.model.now c.args.action.now c.requires.fits c.item.result.now c.item.ensures c.in-Call.function c.in-Call.args c.in-Call.is

pub returns-in-Number : goal.returns-in-Number
returns-in-Number c =
    let unlisted = unknown_test _ c.args.model.now.unknown c.args.action.now.schema _ _ c.as_slice.ensures c.contains.ensures.value c.if-contains.false in
    record { ok = sym (number_cost c.args.model.now c.args.action.now c.requires.fits c.item.result.now c.item.ensures unlisted c.in-Number.number c.in-Number.is) }

pub returns-in_ok-objects-in-Call : goal.returns-in_ok-objects-in-Call
returns-in_ok-objects-in-Call c =
    let unlisted = unknown_test _ c.args.model.now.unknown c.args.action.now.schema _ _ c.as_slice.ensures c.contains.ensures.value c.if-contains.false in
    record {
      ok =
          c.value_at.ensures c.args.model.now.values c.requires.table
          ∙ ap (value_of c.args.model.now.values c.in-Call.function) c.in_ok-objects-in-Call.ensures.ok
          ∙ sym (call_cost c.args.model.now c.args.action.now c.requires.fits c.item.result.now c.item.ensures unlisted c.in-Call.function c.in-Call.args c.in-Call.is);
    }
