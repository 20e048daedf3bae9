use Rattle.std.proofs.Common.{◌≡◌, ◌+◌, sym, ◌∙◌}
use Rattle.pddl_names.specs.declared.name_tables.CurrentAction.{CurrentAction}
use Rattle.pddl_names.specs.Params.{AreParamPlaces}
use Rattle.pddl_names.specs.Tables.{IsCurrentAction}
use Rattle.pddl_names.proofs.CheckLemmas.{action_goes_on, action_begins, if_both}
use Rattle.pddl_names.proofs.name_tables.CurrentAction.past.Goals as goal

pub returns-then-is_action : goal.returns-then-is_action
returns-then-is_action c =
    let words = c.args.words.now in
    let place = c.args.place in
    record {
      ok = if_both c.from.result (λ (r : CurrentAction). r.start ≡ place + 1) (λ (r : CurrentAction). AreParamPlaces words (place + 1) r.params) (IsCurrentAction words (place + 1))
          (λ action start params. action_begins words place c.item.result.now c.item.ensures action (sym c.is_action.ensures ∙ c.if-is_action.true) start params)
          c.from.ensures.ok c.from.ensures.params;
    }

pub returns-else-is_action : goal.returns-else-is_action
returns-else-is_action c = record {
  ok = action_goes_on c.args.words.now c.args.place c.item.result.now c.item.ensures c.args.self c.requires.action (sym c.is_action.ensures ∙ c.if-is_action.false);
}
