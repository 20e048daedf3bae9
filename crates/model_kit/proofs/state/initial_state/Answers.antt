use Rattle.model_kit.proofs.StateLemmas.{start_more}
use Rattle.model_kit.proofs.state.initial_state.Goals as goal

pub loop-place-preserved : goal.loop-place-preserved
loop-place-preserved c = start_more _ _ _ c.item.ensures _ c.in_ok-copy.ensures.ok _ _ c.loop-place.invariant c.in_ok-insert.ensures.updates
