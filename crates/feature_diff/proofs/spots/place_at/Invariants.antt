use Rattle.std.proofs.Common.{◌≡◌, drop}
use Rattle.model_kit.specs.Differences.{number_from}
use Rattle.feature_diff.specs.Differing.{places_of}
use Rattle.feature_diff.proofs.spots.place_at.Given as goal

abbrev pub invariant-loop-place : goal.invariant-loop-place
invariant-loop-place g l =
    number_from l.place (places_of (drop l.place l.differences)) (g.T.Spot.place l.kind l.item) ≡ number_from 0 (places_of l.differences) (g.T.Spot.place l.kind l.item)
