use Rattle.model_kit.specs.Runs.{instance}
use Rattle.model_kit.specs.Judging.{ArePlaced}
use Rattle.mre_base.proofs.Loops.{map_item, All_item}
use Rattle.model_kit.proofs.state.instances.Goals as goal

pub instance_of-requires : goal.instance_of-requires
instance_of-requires c = All_item _ _ _ c.item.ensures (λ f. ArePlaced c.args.objects.now f.args) c.requires

pub loop-place-preserved : goal.loop-place-preserved
loop-place-preserved c = map_item _ _ _ c.item.ensures (instance c.args.objects.now) _ _ _ c.loop-place.invariant c.in_ok-push.ensures.ok c.in_ok-instance_of.ensures.ok
