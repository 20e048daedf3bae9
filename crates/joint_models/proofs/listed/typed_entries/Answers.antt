use Rattle.mre_base.proofs.Loops.{map_item}
use Rattle.joint_models.specs.Listed.{typed_entry}
use Rattle.joint_models.proofs.listed.typed_entries.Goals as goal

pub loop-place-preserved : goal.loop-place-preserved
loop-place-preserved c = map_item _ _ _ c.item.ensures (typed_entry) _ _ _ c.loop-place.invariant c.in_ok-push.ensures.ok c.in_ok-typed_entry.ensures.ok
