-- What is made of two models and their differences: the lists of a rule and of a world.
use Rattle.std.specs.Prelude.{ℕ, ◌≡◌, ◌==◌, ◌||◌, not, Bool, false, List, [], ◌∷◌, ◌++◌, Option}
use Rattle.std.specs.Prelude.{None, Some, is_some, length, map, filter, slice_get, if◌then◌else◌}
use Rattle.std.specs.List.{filter_map}
use Rattle.model_kit.specs.declared.vocabulary.Signature.{Signature}
use Rattle.model_kit.specs.declared.model.Model.{Model}
use Rattle.model_kit.specs.declared.model.Schema.{Schema}
use Rattle.model_kit.specs.declared.model.CostExpr.{CostExpr}
use Rattle.model_kit.specs.declared.atom.SchemaAtom.{SchemaAtom}
use Rattle.model_kit.specs.declared.atom.GroundAtom.{GroundAtom}
use Rattle.model_kit.specs.Places.{Knows, meaning}
use Rattle.model_kit.specs.Places as place
use Rattle.model_kit.specs.Differences.{number_from}
use Rattle.model_kit.specs.Runs.{is_on}
use Rattle.reach_kit.specs.declared.world.Rule.{Rule}
use Rattle.reach_kit.specs.declared.world.World.{World}
use Rattle.feature_diff.specs.declared.difference.Difference.{Difference}
use Rattle.feature_diff.specs.declared.difference.Difference.TheVariants.{Init, Add, Cost, Value}
use Rattle.feature_diff.specs.Differing.{places_of}
use Rattle.pair_rules.specs.Fitting.{IsFitting}

-- some difference is on this precondition of the action
abbrev pub is_pre : ℕ → SchemaAtom → List Difference → Bool
is_pre action atom differences =
    is_some (number_from 0 (places_of differences) (place.Pre action atom))

-- the atom that the action adds only in the user's model, by the difference
abbrev pub user_add : ℕ → Difference → Option SchemaAtom
user_add action (Add at atom false) = if at == action then Some atom else None
user_add action _ = None

-- what is true at first only in the user's model
abbrev pub user_init : Difference → Option GroundAtom
user_init (Init atom false) = Some atom
user_init _ = None

-- what the action costs in the user's model, where that is another cost
abbrev pub user_cost : ℕ → Difference → Option CostExpr
user_cost action (Cost at planner user) = if at == action then Some user else None
user_cost action _ = None

-- the function at objects that has a value in the user's model, where the planner's has another or
-- none
abbrev pub user_key : Difference → Option (ℕ × List ℕ)
user_key (Value function objects planner (Some user)) = Some (function, objects)
user_key _ = None

-- the function of a value and its objects
abbrev pub key_of : ℕ × List ℕ × ℕ → ℕ × List ℕ
key_of value = (value.0, value.1)

-- one of the models knows the action
abbrev pub is_known : Model → Model → ℕ → Bool
is_known planner user action =
    is_on (meaning planner (Knows action)) || is_on (meaning user (Knows action))

-- the preconditions that both models have, and the adds and the costs of both
abbrev pub needs_of : List Difference → ℕ → Schema → List SchemaAtom
needs_of differences action schema =
    filter (λ atom. not (is_pre action atom differences)) schema.pre

abbrev pub adds_of : List Difference → ℕ → Schema → List SchemaAtom
adds_of differences action schema = schema.add ++ filter_map (user_add action) differences

abbrev pub costs_of : List Difference → ℕ → Schema → List CostExpr
costs_of differences action schema = (schema.cost ∷ []) ++ filter_map (user_cost action) differences

-- the rule of an action, which has no cost where neither model knows it
abbrev pub rule_of : Model → Model → List Difference → ℕ → Signature → Schema → Rule
rule_of planner user differences action signature schema = record {
  params = signature.params;
  needs = needs_of differences action schema;
  costs = if is_known planner user action then costs_of differences action schema else [];
  adds = adds_of differences action schema;
}

-- the rule is made of the action's signature and the planner's schema
pub record IsRuleMade (planner user : Model) (differences : List Difference) (action : ℕ)
    (rule : Rule) : Type 0 where
  pub signature : Signature
  pub schema : Schema
  pub signed : slice_get planner.words.actions action ≡ Some signature
  pub listed : slice_get planner.schemas action ≡ Some schema
  pub is : rule ≡ rule_of planner user differences action signature schema

-- the rules of the first actions
pub record AreRulesMade (planner user : Model) (differences : List Difference) (count : ℕ)
    (rules : List Rule) : Type 0 where
  pub counted : length rules ≡ count
  pub each : (action : ℕ) (rule : Rule) → slice_get rules action ≡ Some rule
      → IsRuleMade planner user differences action rule

-- the world is made of the objects of the types that parameters have, of the initial facts and
-- values of both models, and of the rules of all actions
pub record IsWorldMade (planner user : Model) (differences : List Difference)
    (world : World) : Type 0 where
  pub fitting : IsFitting planner.words world.fitting
  pub initial : world.initial ≡ planner.init ++ filter_map user_init differences
  pub values : world.values ≡ map key_of planner.values ++ filter_map user_key differences
  pub rules : AreRulesMade planner user differences (length planner.words.actions) world.rules
