use Rattle.std.proofs.Common.{◌∙◌, ap}
use Rattle.mre_base.proofs.Loops.{map_item}
use Rattle.model_kit.specs.Differences.{number_from}
use Rattle.feature_diff.specs.Differing.{places_of}
use Rattle.pair_tables.specs.Featured.{planner_when, planner_feature}
use Rattle.pair_tables.proofs.features.planner_features.Goals as goal

pub loop-place-preserved : goal.loop-place-preserved
loop-place-preserved g c =
    map_item c.args.planner.now c.loop-place.place c.item-item.result.now c.item-item.ensures (planner_feature (λ item. number_from 1 (places_of c.args.differences.now) (g.T.Spot.place c.args.kind.now item))) c.loop-place.made
    c.push.new.self _ c.loop-place.invariant c.in_ok-push.ensures.ok (λ i. (c.in_ok-copied.ensures.ok i, (c.planner_when-when.ensures ∙ ap planner_when c.number_at.ensures) i))
