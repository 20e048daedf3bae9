-- The laws of grounding: lists of ground actions run in the user's model as their numbers run in
-- the ground's table, explanations by names are explanations by numbers, and a plan of the planner's
-- model is listed.
use Rattle.std.specs.Prelude.{ℕ, ◌≡◌, ◌↔◌, List, All}
use Rattle.cube_kit.specs.Cubes.{Told, single, all_to}
use Rattle.task_kit.specs.Tasks as numbered
use Rattle.case_kit.specs.Evaluated.{permissive, restrictive}
use Rattle.case_kit.specs.Members.{member}
use Rattle.table_explanations.specs.Explanations as table_sets
use Rattle.table_explanations.specs.Explanations.{Reconciliation}
use Rattle.model_kit.specs.declared.model.Model.{Model}
use Rattle.model_kit.specs.declared.vocabulary.Vocabulary.{Vocabulary}
use Rattle.model_kit.specs.declared.action.GroundAction.{GroundAction}
use Rattle.model_kit.specs.Differences.{patched}
use Rattle.model_kit.specs.Explanations as named_sets
use Rattle.model_kit.specs.Laws.{task_of}
use Rattle.model_kit.specs.Places.{Meaning, meaning}
use Rattle.model_kit.specs.Runs as named
use Rattle.model_kit.specs.Vocabulary.{IsGroundAction}
use Rattle.feature_diff.specs.declared.difference.Difference.{Difference}
use Rattle.feature_diff.specs.Differing.{AreDifferencesOf, places_of}
use Rattle.named_tables.specs.Models.{after_told}
use Rattle.named_tables.specs.Numbered.{AreNumbersOf}
use Rattle.pair_rules.specs.Ruled.{models_of}
use Rattle.ground_core.specs.declared.table.Ground.{Ground}
use Rattle.ground_core.specs.Grounds.{IsGroundOf}
use Rattle.ground_core.specs.Names.{AreNamed, AreListed}

-- the numbers by the names are those of the listed actions
abbrev pub PlanLaw : Type 0
PlanLaw =
    (planner user : Model) (differences : List Difference) (ground : Ground)
    (is : IsGroundOf planner user differences ground) (numbers : List ℕ)
    (plan : List GroundAction) → All (IsGroundAction planner.words) plan →
    AreNamed planner.words ground.names.actions.items numbers plan
    → AreNumbersOf is.actions numbers plan

-- each action of the plan is listed, and the numbers are valid in both tasks of the cube of this
-- one set, at this cost in both
pub record RunsInTable (words : Vocabulary) (ground : Ground) (told : Told)
    (plan : List GroundAction) (cost : ℕ) : Type 0 where
  pub numbers : List ℕ
  pub are : AreNamed words ground.names.actions.items numbers plan
  pub permissive_valid : numbered.IsValid
      (permissive ground.table (single ground.table.d told)) numbers
  pub restrictive_valid : numbered.IsValid
      (restrictive ground.table (single ground.table.d told)) numbers
  pub permissive_cost : numbered.cost_of
      (permissive ground.table (single ground.table.d told)) numbers ≡ cost
  pub restrictive_cost : numbered.cost_of
      (restrictive ground.table (single ground.table.d told)) numbers ≡ cost

-- whatever is told, a list of ground actions is valid in the user's model after it exactly where
-- all its actions are listed and its numbers are valid in both tasks of the cube of the told set, at
-- the same cost
abbrev pub GroundingLaw : Type 0
GroundingLaw =
    (planner user : Model) (differences : List Difference) (ground : Ground)
    → IsGroundOf planner user differences ground →
    (told : Told) (plan : List GroundAction) → All (IsGroundAction planner.words) plan →
    named.IsValid (after_told (models_of planner user differences) told) plan
    ↔ RunsInTable planner.words ground told plan
    (named.cost (after_told (models_of planner user differences) told) plan)

-- a plan that is valid in the planner's model has only listed actions
abbrev pub ListedLaw : Type 0
ListedLaw =
    (planner user : Model) (differences : List Difference) (ground : Ground)
    → IsGroundOf planner user differences ground → AreDifferencesOf planner user differences →
    (plan : List GroundAction) → All (IsGroundAction planner.words) plan →
    named.IsValid (meaning planner) plan
    → AreListed planner.words ground.names.actions.items plan

-- after each set the plan is valid by names exactly where it is valid by numbers, at the same cost;
-- and both tasks have the same complete sets, the same monotonic sets and the same first ones of
-- both
pub record AreAlike (task : named_sets.Task) (q : Reconciliation) : Type 0 where
  pub valid : (told : Told)
      → named.IsValid (patched task.planner task.user task.places told) task.plan
      ↔ numbered.IsValid (member q.table told) q.plan
  pub complete : (told : Told) → named_sets.IsComplete task told ↔ table_sets.IsComplete q told
  pub monotonic : (told : Told) → named_sets.IsMonotonic task told ↔ table_sets.IsMonotonic q told
  pub mce : (told : Told) → named_sets.IsMCE task told ↔ table_sets.IsMCE q told
  pub mme : (told : Told) → named_sets.IsMME task told ↔ table_sets.IsMME q told
  pub cost : (told : Told) → named.cost (patched task.planner task.user task.places told) task.plan
      ≡ numbered.cost_of (member q.table told) q.plan

-- a plan is explained by names as its numbers are in the ground's table, under the same weights
abbrev pub ExplanationLaw : Type 0
ExplanationLaw =
    (planner user : Model) (differences : List Difference) (ground : Ground)
    → IsGroundOf planner user differences ground →
    (plan : List GroundAction) (numbers weights : List ℕ) → All (IsGroundAction planner.words) plan
    → AreNamed planner.words ground.names.actions.items numbers plan
    → AreAlike (task_of planner.words planner user (places_of differences) weights plan)
    (record { table = ground.table; plan = numbers; weights = weights })

-- the numbers are those of a cheapest plan of the model, which costs this
pub record IsCheapestByName (words : Vocabulary) (names : List (List ℕ)) (model : Meaning)
    (numbers : List ℕ) (cost : ℕ) : Type 0 where
  pub steps : List GroundAction
  pub are : AreNamed words names numbers steps
  pub fits : All (IsGroundAction words) steps
  pub cheapest : named.IsCheapest words model steps
  pub costs : named.cost model steps ≡ cost

-- a cheapest list of the table's task after all differences is that of a cheapest plan of the
-- planner's model
abbrev pub CheapestLaw : Type 0
CheapestLaw =
    (planner user : Model) (differences : List Difference) (ground : Ground)
    → IsGroundOf planner user differences ground → AreDifferencesOf planner user differences →
    (numbers : List ℕ)
    → table_sets.IsCheapest (member ground.table (all_to ground.table.d)) numbers →
    IsCheapestByName planner.words ground.names.actions.items (meaning planner) numbers
    (numbered.cost_of (member ground.table (all_to ground.table.d)) numbers)
