use Rattle.std.proofs.Common.{◌≡◌, sym, ap, ◌∙◌, Some, None}
use Rattle.std.specs.Prelude.{All, is_some}
use Rattle.model_kit.specs.Places.{meaning}
use Rattle.model_kit.specs.Runs.{cost_of}
use Rattle.model_kit.specs.Judgement.{IsFirstPrinted}
use Rattle.model_kit.specs.Judging.{StateOf, IsMissing}
use Rattle.model_kit.proofs.ActionLemmas.{schema_listed, schema_kept, list_placed, list_ground, some_holds, none_holds}
use Rattle.model_kit.proofs.StepLemmas.{all_met, first_lacked, changed}
use Rattle.model_kit.proofs.judging.take_step.Goals as goal

pub item-schema-requires : goal.item-schema-requires
item-schema-requires c = schema_listed c.args.model.now c.args.action.now c.requires.fits

pub instances-requires : goal.instances-requires
instances-requires c =
    let kept = schema_kept c.args.model.now c.args.action.now c.requires.fits c.item-schema.result.now c.item-schema.ensures in
    list_placed c.args.model.now c.args.action.now c.requires.fits c.item-schema.result.now.pre kept.pre_kept.fit

pub first_missing-requires : goal.first_missing-requires
first_missing-requires c =
    let kept = schema_kept c.args.model.now c.args.action.now c.requires.fits c.item-schema.result.now c.item-schema.ensures in
    list_ground c.args.model.now c.args.action.now c.requires.fits c.item-schema.result.now.pre kept.pre_kept.fit c.in_ok-needed.needed c.in_ok-needed.ensures.ok

pub returns-in-Some : goal.returns-in-Some
returns-in-Some c = record {
  ok = first_lacked c.args.model.now c.args.action.now c.item-schema.result.now c.item-schema.ensures c.in_ok-needed.needed c.in_ok-needed.ensures.ok c.args.state.now c.args.model.now.words c.in-Some.atom
      (some_holds (IsFirstPrinted c.args.model.now.words (IsMissing c.in_ok-needed.needed c.args.state.now)) _ _ c.in-Some.is c.in_ok-atom.ensures.first);
}

pub change-requires-clause-deletes : goal.change-requires-clause-deletes
change-requires-clause-deletes c =
    let kept = schema_kept c.args.model.now c.args.action.now c.requires.fits c.item-schema.result.now c.item-schema.ensures in
    list_placed c.args.model.now c.args.action.now c.requires.fits c.item-schema.result.now.del kept.del_kept.fit

pub change-requires-clause-adds : goal.change-requires-clause-adds
change-requires-clause-adds c =
    let kept = schema_kept c.args.model.now c.args.action.now c.requires.fits c.item-schema.result.now c.item-schema.ensures in
    list_placed c.args.model.now c.args.action.now c.requires.fits c.item-schema.result.now.add kept.add_kept.fit

pub returns-in-Some-2 : goal.returns-in-Some-2
returns-in-Some-2 c =
    let price : cost_of (meaning c.args.model.now) c.args.action.now ≡ Some c.in-Some-2.cost = sym c.in_ok-cost.ensures.ok ∙ c.in-Some-2.is in
    record {
      ok = (
        record {
          priced = ap is_some price;
          met = all_met c.args.model.now c.args.action.now c.item-schema.result.now c.item-schema.ensures c.in_ok-needed.needed c.in_ok-needed.ensures.ok c.args.state.now
              (none_holds (All (StateOf c.args.state.now) c.in_ok-needed.needed) _ c.in_default.is c.in_ok-atom.ensures.none);
        },
        price,
        changed c.args.model.now c.args.action.now c.item-schema.result.now c.item-schema.ensures c.args.state.now c.change.new.state c.in_ok-change-in-Some-2.ensures.ok,
      );
    }

pub returns : goal.returns
returns c =
    let price : cost_of (meaning c.args.model.now) c.args.action.now ≡ None = sym c.in_ok-cost.ensures.ok ∙ c.in-None.is in
    record {
      ok = (
        all_met c.args.model.now c.args.action.now c.item-schema.result.now c.item-schema.ensures c.in_ok-needed.needed c.in_ok-needed.ensures.ok c.args.state.now
            (none_holds (All (StateOf c.args.state.now) c.in_ok-needed.needed) _ c.in_default.is c.in_ok-atom.ensures.none),
        ap is_some price,
      );
    }
