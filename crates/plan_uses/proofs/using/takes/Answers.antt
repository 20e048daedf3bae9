use Rattle.std.proofs.Common.{◌≡◌, ◌==◌, true, sym, ap, ◌∙◌}
use Rattle.std.proofs.lemmas.Bool.{eq-eqb, ne_eqb}
use Rattle.std.proofs.lemmas.List.Folds.{list_any_at}
use Rattle.std.proofs.lemmas.Option.{slice_get_within, get_or_from_slice_get}
use Rattle.model_kit.specs.declared.action.GroundAction.{GroundAction}
use Rattle.mre_base.proofs.Listed.{none_take_item}
use Rattle.plan_uses.proofs.using.takes.Goals as goal

pub returns-then-item-action : goal.returns-then-item-action
returns-then-item-action c =
    let steps = c.args.plan.now.steps in
    let step = c.item.result.now in
    let taken : (step.schema == c.args.action) ≡ true = eq-eqb _ _ c.if-item-action.true in
    sym (list_any_at (λ (s : GroundAction). s.schema == c.args.action) steps c.loop-step.step step (slice_get_within steps c.loop-step.step step c.item.ensures)
    (ap (λ (s : GroundAction). s.schema == c.args.action) (get_or_from_slice_get steps c.loop-step.step step step c.item.ensures) ∙ taken))

pub loop-step-preserved : goal.loop-step-preserved
loop-step-preserved c =
    none_take_item (λ (step : GroundAction). step.schema == c.args.action) c.args.plan.now.steps c.loop-step.step c.item.result.now c.item.ensures (ne_eqb _ _ c.if-item-action.false) c.loop-step.invariant
