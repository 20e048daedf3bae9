use Rattle.model_kit.proofs.StateLemmas.{delete_more}
use Rattle.model_kit.proofs.state.delete.Goals as goal

pub loop-place-preserved : goal.loop-place-preserved
loop-place-preserved c =
    delete_more c.args.objects.now _ _ _ c.item.ensures _ c.in_ok-atom.ensures.ok c.args.state.now _ _ c.loop-place.invariant c.remove.ensures.updates
