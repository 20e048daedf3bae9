use Rattle.mre_base.proofs.Loops.{map_item}
use Rattle.pddl_models.specs.Says.{schema_said}
use Rattle.pddl_models.proofs.models.schemas_said.Goals as goal

pub loop-place-preserved : goal.loop-place-preserved
loop-place-preserved c = map_item _ _ _ c.item.ensures (schema_said c.args.metric) _ _ _ c.loop-place.invariant c.in_ok-push.ensures.ok c.in_ok-schema_said.ensures.ok
