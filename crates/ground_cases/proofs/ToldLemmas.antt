-- The first differences of two models can be told.
use Rattle.std.proofs.Common.{◌≡◌, ℕ, ◌≤◌, List, length, ap, ◌∙◌, arith}
use Rattle.std.proofs.lemmas.List.{length-map}
use Rattle.model_kit.specs.declared.model.Model.{Model}
use Rattle.model_kit.specs.Places.{meaning}
use Rattle.model_kit.proofs.OneDifferences.{same_differences}
use Rattle.model_kit.proofs.PlaceLemmas.{all_of, all_within}
use Rattle.feature_diff.specs.declared.difference.Difference.{Difference}
use Rattle.feature_diff.specs.Differing.{AreDifferencesOf, IsToldOf, place_of, places_of}

pub may_tell : (planner user : Model) (differences : List Difference) (n : ℕ) → AreDifferencesOf planner user differences → length differences ≤ 256 → n ≤ length differences → IsToldOf planner user (all_of n)
may_tell planner user differences n all few within others second =
    let same : length others ≡ length differences =
    ap length (same_differences planner.words (meaning planner) (meaning user) others (places_of differences) second all.all) ∙ length-map differences place_of in (
      omega (arith, same, few),
      λ k there. let bounds = all_within n k there in (bounds.0, omega (arith, bounds.1, same, within)),
    )
