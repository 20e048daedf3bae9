-- The rules of two models over one vocabulary.
use Rattle.std.specs.Prelude.{List}
use Rattle.model_kit.specs.declared.model.Model.{Model}
use Rattle.model_kit.specs.Places.{meaning}
use Rattle.reach_kit.specs.declared.world.World.{World}
use Rattle.feature_diff.specs.declared.difference.Difference.{Difference}
use Rattle.feature_diff.specs.Differing.{places_of}
use Rattle.named_tables.specs.Models.{Models}
use Rattle.named_tables.specs.Worlds.{AreRulesOf}

-- two models with these differences
abbrev pub models_of : Model → Model → List Difference → Models
models_of planner user differences =
    record {
      words = planner.words;
      planner = meaning planner;
      user = meaning user;
      places = places_of differences;
    }

-- the world has the rules of two models with these differences
abbrev pub HasRules : Model → Model → List Difference → World → Type 0
HasRules planner user differences world = AreRulesOf (models_of planner user differences) world
