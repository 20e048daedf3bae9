use Rattle.std.proofs.Common.{[], ◌∷◌, ◌++◌, ◌∙◌, sym}
use Rattle.mre_base.proofs.Loops.{take_item}
use Rattle.cow_models.proofs.making.copied_actions.Goals as goal

pub loop-place-preserved : goal.loop-place-preserved
loop-place-preserved c =
    c.in_ok-push.ensures.ok ∙ (λ j. c.loop-place.invariant j ++ c.in_ok-copied_action.ensures j ∷ []) ∙ sym (take_item c.args.actions.now c.loop-place.place c.item.result.now c.item.ensures)
