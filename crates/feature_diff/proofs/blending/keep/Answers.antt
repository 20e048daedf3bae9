use Rattle.std.proofs.Common.{◌∙◌}
use Rattle.feature_diff.specs.Blending.{is_told_at}
use Rattle.feature_diff.proofs.BlendLemmas.{kept_more, kept_less}
use Rattle.feature_diff.proofs.blending.keep.Goals as goal
use Rattle.feature_diff.proofs.blending.keep.Goals.{then-is_told-wanted+in_ok-copied+in_ok-push, else-is_told-wanted}

pub loop-place-preserved : goal.loop-place-preserved
loop-place-preserved g c =
    elim c.if-is_told-wanted.branch [
      | then-is_told-wanted+in_ok-copied+in_ok-push w ↦
          kept_more (λ x. is_told_at c.args.differences.now c.args.told.now (g.T.Spot.place c.args.kind.now x)) c.args.wanted c.args.items.now c.loop-place.place c.item-item.result.now c.item-item.ensures
          c.args.made.now c.loop-place.made c.if-is_told-wanted.made c.loop-place.invariant c.is_told.result c.is_told.ensures w.if-is_told-wanted.true w.in_ok-copied.field-0 w.in_ok-copied.ensures.ok (w.made-is ∙ w.in_ok-push.ensures.ok)
      | else-is_told-wanted w ↦
          kept_less (λ x. is_told_at c.args.differences.now c.args.told.now (g.T.Spot.place c.args.kind.now x)) c.args.wanted c.args.items.now c.loop-place.place c.item-item.result.now c.item-item.ensures
          c.args.made.now c.loop-place.made c.if-is_told-wanted.made c.loop-place.invariant c.is_told.result c.is_told.ensures w.if-is_told-wanted.false w.made-is
    ]
