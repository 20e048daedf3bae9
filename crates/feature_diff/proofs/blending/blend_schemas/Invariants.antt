use Rattle.feature_diff.specs.Blending.{is_told_at, AreBlended}
use Rattle.feature_diff.proofs.blending.blend_schemas.Given as goal

abbrev pub invariant-loop-action : goal.invariant-loop-action
invariant-loop-action l = AreBlended (is_told_at l.differences l.told) l.planner l.user l.action l.made
