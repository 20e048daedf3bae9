use Rattle.feature_diff.specs.Blending.{is_told_at}
use Rattle.feature_diff.proofs.BlendLemmas.{both_count, blend_sound}
use Rattle.feature_diff.proofs.blending.blend_models.Goals as goal

pub blend_schemas-requires-clause-one_each : goal.blend_schemas-requires-clause-one_each
blend_schemas-requires-clause-one_each c = both_count c.args.planner.now c.args.user.now c.requires.joint (is_told_at c.args.differences.now c.args.told.now)

pub invariant_of-result : goal.invariant_of-result
invariant_of-result c = record {
  sound =
      blend_sound c.args.planner.now c.args.user.now c.requires.joint (is_told_at c.args.differences.now c.args.told.now) c.in_ok-copied.field-0 c.in_ok-blend.field-0 c.in_ok-blend-2.field-0 c.in_ok-blend_schemas.field-0
      c.in_ok-blend-3.field-0 c.in_ok-blend-4.field-0 c.in_ok-copied.ensures.ok c.in_ok-blend.ensures.ok c.in_ok-blend-2.ensures.ok c.in_ok-blend_schemas.ensures.ok c.in_ok-blend-3.ensures.ok c.in_ok-blend-4.ensures.ok;
}
