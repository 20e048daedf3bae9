use Rattle.std.proofs.Common.{◌∙◌, sym, map}
use Rattle.model_kit.specs.Differences.{number_from}
use Rattle.feature_diff.specs.Differing.{places_of}
use Rattle.case_kit.specs.declared.cases.When.TheVariants.{IfLeft}
use Rattle.pair_rules.proofs.PartLemmas.{picked, passed}
use Rattle.pair_tables.specs.Featured.{planner_feature, user_feature}
use Rattle.pair_tables.proofs.FeatureLemmas.{left_there, left_nowhere}
use Rattle.pair_tables.proofs.features.features_of.Goals.{in-Some+in_ok-copied+in_ok-push, in_default}
use Rattle.pair_tables.proofs.features.features_of.Goals as goal

pub loop-place-preserved : goal.loop-place-preserved
loop-place-preserved g c =
    elim c.match-number_at.branch [
      | in-Some+in_ok-copied+in_ok-push w ↦
          picked c.args.user.now c.loop-place.place c.item-item.result.now c.item-item.ensures (user_feature (λ item. number_from 1 (places_of c.args.differences.now) (g.T.Spot.place c.args.kind.now item)))
          (map (planner_feature (λ item. number_from 1 (places_of c.args.differences.now) (g.T.Spot.place c.args.kind.now item))) c.args.planner.now) c.loop-place.made c.loop-place.invariant _ _ _
          (left_there (λ item. number_from 1 (places_of c.args.differences.now) (g.T.Spot.place c.args.kind.now item)) c.item-item.result.now w.in-Some.number (sym c.number_at.ensures ∙ w.in-Some.is))
          (λ i. (w.in_ok-copied.ensures.ok i, IfLeft w.in-Some.number)) (w.made-is ∙ w.in_ok-push.ensures.ok)
      | in_default w ↦
          w.made-is
          ∙ passed c.args.user.now c.loop-place.place c.item-item.result.now c.item-item.ensures (user_feature (λ item. number_from 1 (places_of c.args.differences.now) (g.T.Spot.place c.args.kind.now item)))
          (map (planner_feature (λ item. number_from 1 (places_of c.args.differences.now) (g.T.Spot.place c.args.kind.now item))) c.args.planner.now) c.loop-place.made c.loop-place.invariant
          (left_nowhere (λ item. number_from 1 (places_of c.args.differences.now) (g.T.Spot.place c.args.kind.now item)) c.item-item.result.now (sym c.number_at.ensures ∙ w.in_default.is))
    ]
