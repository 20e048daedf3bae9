use Rattle.feature_diff.proofs.ToldLemmas.{at_here, at_later}
use Rattle.feature_diff.proofs.spots.place_at.Goals as goal

pub loop-place-preserved : goal.loop-place-preserved
loop-place-preserved g c =
    at_later c.args.differences.now (g.T.Spot.place c.args.kind.now c.args.item.now) c.loop-place.place c.item.result.now c.item.ensures _ c.loop-place.invariant c.is_at.result c.is_at.ensures
    c.if-is_at.false

pub returns-then-is_at-clause-place : goal.returns-then-is_at-clause-place
returns-then-is_at-clause-place g c =
    at_here c.args.differences.now (g.T.Spot.place c.args.kind.now c.args.item.now) c.loop-place.place c.item.result.now c.item.ensures _ c.loop-place.invariant c.is_at.result c.is_at.ensures
    c.if-is_at.true
