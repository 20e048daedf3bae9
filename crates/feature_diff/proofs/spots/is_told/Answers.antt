use Rattle.std.proofs.Common.{◌∙◌}
use Rattle.feature_diff.proofs.ToldLemmas.{told_there, told_nowhere}
use Rattle.feature_diff.proofs.spots.is_told.Goals as goal

pub returns-in-Some : goal.returns-in-Some
returns-in-Some g c =
    c.has.ensures ∙ told_there c.args.differences.now c.args.told.now (g.T.Spot.place c.args.kind.now c.args.item.now) c.place_at.result c.place_at.ensures.place c.in-Some.place c.in-Some.is

pub returns-in-None : goal.returns-in-None
returns-in-None g c =
    told_nowhere c.args.differences.now c.args.told.now (g.T.Spot.place c.args.kind.now c.args.item.now) c.place_at.result c.place_at.ensures.place c.in-None.is
