-- Two models side by side, and the user's model after some of their differences are told.
use Rattle.std.specs.Prelude.{◌⊎◌, List, IsSome}
use Rattle.cube_kit.specs.Cubes.{Told}
use Rattle.model_kit.specs.declared.vocabulary.Vocabulary.{Vocabulary}
use Rattle.model_kit.specs.declared.action.GroundAction.{GroundAction}
use Rattle.model_kit.specs.Places.{Place, Meaning}
use Rattle.model_kit.specs.Differences.{patched}
use Rattle.model_kit.specs.Runs.{Has, cost_of}

-- two models over one vocabulary, and the places at which they differ, numbered from 1 on
pub record Models : Type 0 where
  pub words : Vocabulary
  pub planner : Meaning
  pub user : Meaning
  pub places : List Place

-- the user's model after these differences
abbrev pub after_told : Models → Told → Meaning
after_told models told = patched models.planner models.user models.places told

-- one of the models has the feature
abbrev pub EitherHas : Models → Place → Type 0
EitherHas models place = Has models.planner place ⊎ Has models.user place

-- the action has a cost after some set of differences
abbrev pub HasSomeCost : Models → GroundAction → Type 0
HasSomeCost models action = (told : Told) × IsSome (cost_of (after_told models told) action)
