use Rattle.std.proofs.Common.{List, ◌≡◌, ◌∙◌, ap, cond}
use Rattle.std.specs.FinSet as set
use Rattle.std.proofs.lemmas.Result.{IfOk-weaker}
use Rattle.model_kit.specs.Places.{meaning}
use Rattle.model_kit.specs.Differences.{patched, is_told}
use Rattle.feature_diff.specs.declared.difference.Difference.{Difference}
use Rattle.feature_diff.specs.Differing.{AreDifferencesOf, places_of}
use Rattle.feature_diff.specs.Blending.{is_told_at, IsBlend}
use Rattle.feature_diff.proofs.BlendLemmas.{blend_means}
use Rattle.model_kit.proofs.OneDifferences.{same_differences}
use Rattle.feature_diff.proofs.pair.Pair.patched.Goals as goal

pub returns-clause-ok : goal.returns-clause-ok
returns-clause-ok c =
    let pair = c.args.self.now in
    IfOk-weaker c.blend_models.result (IsBlend (is_told_at c.in-Ok.differences c.args.told.now) pair.planner pair.user)
    (λ model. (differences : List Difference) → AreDifferencesOf pair.planner pair.user differences → meaning model ≡ patched (meaning pair.planner) (meaning pair.user) (places_of differences) c.args.told.now)
    (λ model blend differences are.
    let same : places_of c.in-Ok.differences ≡ places_of differences =
    same_differences pair.planner.words (meaning pair.planner) (meaning pair.user) (places_of c.in-Ok.differences) (places_of differences) c.in-Ok.ensures.ok.all are.all in
    λ i p.
    (blend_means pair.planner pair.user pair.joint (is_told_at c.in-Ok.differences c.args.told.now) model blend p
    ∙ ap (λ places. cond (is_told 1 places (set.contains c.args.told.now) p) (meaning pair.planner p) (meaning pair.user p)) same) i)
    c.blend_models.ensures.ok
