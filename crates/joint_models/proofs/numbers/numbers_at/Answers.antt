use Rattle.mre_base.proofs.Loops.{map_item}
use Rattle.joint_models.specs.Renaming.{number_at}
use Rattle.joint_models.proofs.numbers.numbers_at.Goals as goal

pub loop-place-preserved : goal.loop-place-preserved
loop-place-preserved c = map_item _ _ _ c.item.ensures (number_at c.args.numbers.now) _ _ _ c.loop-place.invariant c.in_ok-push.ensures.ok c.number_at.ensures
