use Rattle.std.proofs.Common.{[], ◌∷◌, ◌++◌, ◌∙◌, sym}
use Rattle.mre_base.proofs.Loops.{take_item}
use Rattle.mre_base.proofs.copied.ListCopied.copied.Goals as goal

pub loop-place-preserved : goal.loop-place-preserved
loop-place-preserved g c =
    c.in_ok-push.ensures.ok ∙ (λ j. c.loop-place.invariant j ++ c.in_ok-copied.ensures.ok j ∷ []) ∙ sym (take_item c.args.self.now c.loop-place.place c.item.result.now c.item.ensures)
