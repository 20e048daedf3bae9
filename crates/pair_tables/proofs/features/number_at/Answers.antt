use Rattle.std.proofs.Common.{◌+◌, ◌∙◌, sym, ap}
use Rattle.std.specs.Option.{option_map}
use Rattle.feature_diff.specs.Differing.{places_of}
use Rattle.pair_tables.proofs.FeatureLemmas.{number_is}
use Rattle.pair_tables.proofs.features.number_at.Goals as goal

pub returns-in-Some : goal.returns-in-Some
returns-in-Some g c =
    ap (option_map (λ n. n + 1)) (sym c.in-Some.is) ∙ number_is (places_of c.args.differences.now) (g.T.Spot.place c.args.kind.now c.args.item.now) c.place_at.result c.place_at.ensures.place

pub returns-in-None : goal.returns-in-None
returns-in-None g c =
    ap (option_map (λ n. n + 1)) (sym c.in-None.is) ∙ number_is (places_of c.args.differences.now) (g.T.Spot.place c.args.kind.now c.args.item.now) c.place_at.result c.place_at.ensures.place
