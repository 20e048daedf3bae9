use Rattle.std.proofs.Common.{◌≡◌, map, take}
use Rattle.model_kit.specs.Differences.{number_from}
use Rattle.feature_diff.specs.Differing.{places_of}
use Rattle.pair_tables.specs.Featured.{planner_feature}
use Rattle.pair_tables.proofs.features.planner_features.Given as goal

abbrev pub invariant-loop-place : goal.invariant-loop-place
invariant-loop-place g l = l.made ≡ map (planner_feature (λ item. number_from 1 (places_of l.differences) (g.T.Spot.place l.kind item))) (take l.place l.planner)
