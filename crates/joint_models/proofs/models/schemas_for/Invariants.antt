use Rattle.std.proofs.Common.{take}
use Rattle.joint_models.specs.Renaming.{AreSchemasFor}
use Rattle.joint_models.proofs.models.schemas_for.Given as goal

abbrev pub invariant-loop-place : goal.invariant-loop-place
invariant-loop-place l = AreSchemasFor l.own.model.now l.own.numbers.now l.other.model.now l.other.numbers.now (take l.place l.actions) l.schemas
