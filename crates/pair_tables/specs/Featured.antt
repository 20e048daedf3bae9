-- What two models have of one kind, and when it is there.
use Rattle.std.specs.Prelude.{ℕ, List, ◌++◌, Option, None, Some, map, Contains}
use Rattle.std.specs.List.{filter_map}
use Rattle.std.specs.Option.{option_map}
use Rattle.model_kit.specs.declared.atom.GroundAtom.{GroundAtom}
use Rattle.model_kit.specs.Places.{Place}
use Rattle.case_kit.specs.declared.cases.When.{When}
use Rattle.case_kit.specs.declared.cases.When.TheVariants.{Always, IfTold, IfLeft}
use Rattle.case_kit.specs.declared.cases.Case.{Case}
use Rattle.named_tables.specs.Models.{Models, EitherHas}
use Rattle.named_tables.specs.Tables.{IsWhen}

-- when a feature of the planner's model is there, by the number of the difference on it
abbrev pub planner_when : Option ℕ → When
planner_when None = Always
planner_when (Some number) = IfTold number

-- a feature of the planner's, and one of the user's where there is a difference on it
abbrev pub planner_feature : {F : Type 0} → (F → Option ℕ) → F → F × When
planner_feature number_of f = (f, planner_when (number_of f))

abbrev pub user_feature : {F : Type 0} → (F → Option ℕ) → F → Option (F × When)
user_feature number_of f = option_map (λ number. (f, IfLeft number)) (number_of f)

-- the features of the planner's list, and those that only the user's has
abbrev pub features : {F : Type 0} → (F → Option ℕ) → List F → List F → List (F × When)
features number_of planner user =
    map (planner_feature number_of) planner ++ filter_map (user_feature number_of) user

-- the list has each feature of the kind that at least one model has, with the condition under which
-- it is there
pub record AreFeatures (models : Models) (F : Type 0) (place : F → Place)
    (list : List (F × When)) : Type 0 where
  pub each : (feature : F × When) → Contains list feature
      → IsWhen models (place feature.0) feature.1
  pub all : (f : F) → EitherHas models (place f) → (when : When) × Contains list (f, when)

-- a feature with the number of its atom
abbrev pub case_of : {F : Type 0} → (GroundAtom → ℕ) → (F → GroundAtom) → F × When → Case
case_of number atom feature = record { atom = number (atom feature.0); when = feature.1 }
