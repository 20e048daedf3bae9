use Rattle.std.proofs.Common.{◌≡◌, map, take}
use Rattle.pddl_models.specs.Says.{schema_said}
use Rattle.pddl_models.proofs.models.schemas_said.Given as goal

abbrev pub invariant-loop-place : goal.invariant-loop-place
invariant-loop-place l = l.made ≡ map (schema_said l.metric) (take l.place l.bodies)
