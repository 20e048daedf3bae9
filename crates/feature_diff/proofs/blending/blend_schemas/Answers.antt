use Rattle.feature_diff.specs.Blending.{is_told_at}
use Rattle.feature_diff.proofs.BlendLemmas.{none_blended, blended_more}
use Rattle.feature_diff.proofs.blending.blend_schemas.Goals as goal

pub loop-action-init : goal.loop-action-init
loop-action-init c = none_blended (is_told_at c.args.differences.now c.args.told.now) c.args.planner.now c.args.user.now c.empty-made.result c.empty-made.ensures

pub loop-action-preserved : goal.loop-action-preserved
loop-action-preserved c =
    blended_more (is_told_at c.args.differences.now c.args.told.now) c.args.planner.now c.args.user.now c.loop-action.action c.item.result.now c.item-in-loop-action.result.now c.item.ensures c.item-in-loop-action.ensures
    c.loop-action.made c.push.new.self c.in_ok-blend_schema.field-0 c.in_ok-blend_schema.ensures.ok c.in_ok-push.ensures.ok c.loop-action.invariant
