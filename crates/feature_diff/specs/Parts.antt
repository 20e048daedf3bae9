-- The differences of two models, group by group.
use Rattle.std.specs.Prelude.{ℕ, ◌≡◌, ◌≢◌, ◌<◌, ◌≤◌, ◌⊎◌, List, length, All, AllPairs, Contains}
use Rattle.model_kit.specs.declared.model.Model.{Model}
use Rattle.model_kit.specs.Places.{Place, meaning}
use Rattle.model_kit.specs.Differences.{group, IsListedBefore}
use Rattle.feature_diff.specs.declared.difference.Difference.{Difference}
use Rattle.feature_diff.specs.declared.gathered.Gathered.{Gathered}
use Rattle.feature_diff.specs.Differing.{place_of, places_of, Says, FitsWords}
use Rattle.feature_diff.specs.Gathering.{Grows}

-- the difference is one of two models, in one of these groups
pub record IsOne (planner user : Model) (In : ℕ → Type 0) (difference : Difference) : Type 0 where
  pub says : Says (meaning planner) (meaning user) difference
  pub differ : meaning planner (place_of difference) ≢ meaning user (place_of difference)
  pub fits : FitsWords planner.words difference
  pub inside : In (group planner.words (place_of difference))

-- these are all differences of two models in these groups, in order
pub record IsPart (planner user : Model) (In : ℕ → Type 0)
    (differences : List Difference) : Type 0 where
  pub each : All (IsOne planner user In) differences
  pub ordered : AllPairs (IsListedBefore planner.words) (places_of differences)
  pub complete : (p : Place) → In (group planner.words p)
      → (meaning planner p ≡ meaning user p) ⊎ Contains (places_of differences) p

-- the differences in one group came to those so far
abbrev pub GainsGroup : Model → Model → ℕ → Gathered → Gathered → Type 0
GainsGroup planner user number before after =
    (differences : List Difference) × IsPart planner user (λ n. n ≡ number) differences
    × Grows before after differences

-- the differences so far are those in the groups below a number
abbrev pub IsGathered : Model → Model → ℕ → Gathered → Type 0
IsGathered planner user number gathered =
    (differences : List Difference) × IsPart planner user (λ n. n < number) differences
    × (gathered.found ≡ length differences) × (gathered.found ≤ 256 → gathered.kept ≡ differences)
