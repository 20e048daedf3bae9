-- The user's model with each told place as the planner has it.
use Rattle.std.specs.Prelude.{ℕ, ◌≡◌, ◌<◌, ◌++◌, Bool, true, false, Some, List, length, filter}
use Rattle.std.specs.Prelude.{slice_get, if◌then◌else◌}
use Rattle.std.specs.Bool.{beq}
use Rattle.std.specs.Ordering.{nat_cmp}
use Rattle.std.specs.FinSet as set
use Rattle.model_kit.specs.declared.model.Model.{Model}
use Rattle.model_kit.specs.declared.model.Schema.{Schema}
use Rattle.model_kit.specs.Places as place
use Rattle.model_kit.specs.Places.{Place}
use Rattle.model_kit.specs.Differences.{is_told}
use Rattle.feature_diff.specs.declared.difference.Difference.{Difference}
use Rattle.feature_diff.specs.declared.spots.ActionKind.{ActionKind}
use Rattle.feature_diff.specs.declared.spots.ActionKind.TheVariants.{Knows, Cost}
use Rattle.feature_diff.specs.Differing.{places_of}

abbrev pub action_place : ActionKind → ℕ → Place
action_place Knows action = place.Knows action
action_place Cost action = place.Cost action

-- the number of the difference at the place is in the set
abbrev pub is_told_at : List Difference → set.FinSet nat_cmp → Place → Bool
is_told_at differences told = is_told 1 (places_of differences) (set.contains told)

-- the entries that pass the test, or those that don't
abbrev pub those : {X : Type 0} → (X → Bool) → Bool → List X → List X
those test wanted = filter (λ x. beq (test x) wanted)

-- the planner's entries that pass the test, and the user's that don't
abbrev pub blended : {X : Type 0} → (X → Bool) → List X → List X → List X
blended test planner user = those test true planner ++ those test false user

-- the schema of an action with the planner's parts at the places that pass the test
abbrev pub blended_schema : (Place → Bool) → ℕ → Schema → Schema → Schema
blended_schema test action planner user = record {
  pre = blended (λ f. test (place.Pre action f)) planner.pre user.pre;
  add = blended (λ f. test (place.Add action f)) planner.add user.add;
  del = blended (λ f. test (place.Del action f)) planner.del user.del;
  cost = if test (place.Cost action) then planner.cost else user.cost;
}

-- so are the schemas before a number
pub record AreBlended (test : Place → Bool) (planner user : List Schema) (bound : ℕ)
    (schemas : List Schema) : Type 0 where
  pub counted : length schemas ≡ bound
  pub each : (n : ℕ) (s t : Schema) → n < bound → slice_get planner n ≡ Some s
      → slice_get user n ≡ Some t → slice_get schemas n ≡ Some (blended_schema test n s t)

-- so is the whole model
pub record IsBlend (test : Place → Bool) (planner user model : Model) : Type 0 where
  pub words : model.words ≡ planner.words
  pub init : model.init ≡ blended (λ a. test (place.Init a)) planner.init user.init
  pub goal : model.goal ≡ blended (λ a. test (place.Goal a)) planner.goal user.goal
  pub schemas : AreBlended test planner.schemas user.schemas (length planner.schemas) model.schemas
  pub values : model.values ≡ blended (λ v. test (place.Value v.0 v.1)) planner.values user.values
  pub unknown : model.unknown ≡ blended (λ n. test (place.Knows n)) planner.unknown user.unknown
