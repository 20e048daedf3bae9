-- When the rules over which reachability is searched are those of two models.
use Rattle.std.specs.Prelude.{ℕ, ◌≡◌, ◌↔◌, List, Some, Contains, slice_get}
use Rattle.model_kit.specs.declared.atom.GroundAtom.{GroundAtom}
use Rattle.model_kit.specs.declared.atom.SchemaAtom.{SchemaAtom}
use Rattle.model_kit.specs.declared.action.GroundAction.{GroundAction}
use Rattle.model_kit.specs.declared.model.CostExpr.{CostExpr}
use Rattle.model_kit.specs.Places.{Init, Pre, Add}
use Rattle.model_kit.specs.Vocabulary.{IsGroundAction}
use Rattle.model_kit.specs.Runs.{Has}
use Rattle.reach_kit.specs.declared.world.Rule.{Rule}
use Rattle.reach_kit.specs.declared.world.World.{World}
use Rattle.reach_kit.specs.Relaxed.{Fits, HasValue}
use Rattle.named_tables.specs.Models.{Models, EitherHas, HasSomeCost}

-- one of the costs has a value
abbrev pub HasPrice : World → Rule → List ℕ → Type 0
HasPrice world rule objects =
    (cost : CostExpr) × Contains rule.costs cost × HasValue world objects cost

-- the action with these objects
abbrev pub action_with : ℕ → List ℕ → GroundAction
action_with schema objects = record { schema = schema; objects = objects }

-- the rule asks of an action what both models do: objects that fit, a cost after some set of
-- differences, and the preconditions that both have; and it adds what either does
pub record IsRuleOf (models : Models) (world : World) (schema : ℕ) (rule : Rule) : Type 0 where
  pub fits : (objects : List ℕ) → Fits world rule.params objects
      ↔ IsGroundAction models.words (action_with schema objects)
  pub priced : (objects : List ℕ) → IsGroundAction models.words (action_with schema objects)
      → HasPrice world rule objects ↔ HasSomeCost models (action_with schema objects)
  pub needs : (f : SchemaAtom) → Contains rule.needs f
      ↔ (Has models.planner (Pre schema f) × Has models.user (Pre schema f))
  pub adds : (f : SchemaAtom) → Contains rule.adds f ↔ EitherHas models (Add schema f)

-- the initial atoms are those of both models together, and each action schema has its rule
pub record AreRulesOf (models : Models) (world : World) : Type 0 where
  pub initial : (atom : GroundAtom) → Contains world.initial atom ↔ EitherHas models (Init atom)
  pub each : (schema : ℕ) (rule : Rule) → slice_get world.rules schema ≡ Some rule
      → IsRuleOf models world schema rule
  pub all : (action : GroundAction) → IsGroundAction models.words action
      → (rule : Rule) × (slice_get world.rules action.schema ≡ Some rule)
