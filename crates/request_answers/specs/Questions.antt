-- The question that the contents of a request's files ask: two models in the numbers of one
-- vocabulary, and a plan. And what decides whether it has an answer.
use Rattle.std.specs.Prelude.{ℕ, ◌≡◌, ◌<◌, List, length, map, All}
use Rattle.model_kit.specs.declared.vocabulary.Vocabulary.{Vocabulary}
use Rattle.model_kit.specs.declared.model.Model.{Model}
use Rattle.model_kit.specs.declared.action.GroundAction.{GroundAction}
use Rattle.model_kit.specs.declared.atom.GroundAtom.{GroundAtom}
use Rattle.model_kit.specs.declared.judging.NamedJudgement.TheVariants.{Fails, NoCost, GoalMissing}
use Rattle.model_kit.specs.Vocabulary.{IsGroundAction}
use Rattle.model_kit.specs.Printed.{atom_form, action_form}
use Rattle.model_kit.specs.Places.{Meaning}
use Rattle.model_kit.specs.Runs.{IsValid, IsCheapest, cost}
use Rattle.model_kit.specs.Judgement.{Judges}
use Rattle.model_kit.specs.Pairs.{ArePaired}
use Rattle.feature_diff.specs.declared.difference.Difference.{Difference}
use Rattle.ground_core.specs.Grounds.{IsFull}
use Rattle.mre_words.specs.declared.request.Request.{Request}
use Rattle.mre_words.specs.declared.request.Request.TheVariants.{Explain, Diff, Patch, PlanPatch}
use Rattle.request_answers.specs.declared.stop.PlanFault.{PlanFault}
use Rattle.request_answers.specs.declared.stop.PlanFault.TheVariants.{StepNeeds, StepHasNoCost}
use Rattle.request_answers.specs.declared.stop.PlanFault.TheVariants.{EndsWithout}
use Rattle.request_answers.specs.Texts.{AreModels, IsPlanIn, has_plan}
use Rattle.request_answers.specs.Counts.{AreWithinLimits}

-- the contents are texts of two models that agree and of this plan, and these are the models in the
-- numbers of their joint vocabulary
pub record Pose (request : Request) (contents : List (List ℕ)) (planner user : Model)
    (plan : List GroundAction) : Type 0 where
  pub planner_read : Model
  pub user_read : Model
  pub models : AreModels contents planner_read user_read
  pub planned : IsPlanIn (has_plan request) contents planner_read plan
  pub paired : ArePaired planner_read user_read planner.words planner user

-- the contents ask this question, these are all its differences, and no count is past its limit
pub record AreCounted (request : Request) (contents : List (List ℕ)) (planner user : Model)
    (plan : List GroundAction) (differences : List Difference) : Type 0 where
  pub pose : Pose request contents planner user plan
  pub limits : AreWithinLimits planner user plan differences

-- the fault of a plan that isn't valid: the first step that doesn't apply, because it lacks the
-- printed atom or has no cost; or the first goal fact that is missing at the end
abbrev pub IsFault : Vocabulary → Meaning → List GroundAction → PlanFault → Type 0
IsFault words model plan (StepNeeds step text) =
    (atom : GroundAtom) × Judges words model plan (Fails step atom) × (text ≡ atom_form words atom)
IsFault words model plan (StepHasNoCost step) = Judges words model plan (NoCost step)
IsFault words model plan (EndsWithout text) =
    (atom : GroundAtom) × Judges words model plan (GoalMissing atom) × (text ≡ atom_form words atom)

-- the plan is valid and has the first cost, and the printed steps are a cheapest plan, which has
-- the second, smaller cost
pub record IsUndercut (words : Vocabulary) (model : Meaning) (plan : List GroundAction)
    (costs other : ℕ) (steps : List (List ℕ)) : Type 0 where
  pub valid : IsValid model plan
  pub costs_are : costs ≡ cost model plan
  pub list : List GroundAction
  pub printed : steps ≡ map (action_form words) list
  pub fits : All (IsGroundAction words) list
  pub cheapest : IsCheapest words model list
  pub other_is : other ≡ cost model list
  pub less : other < costs

-- more differences than those of which every set is tried
abbrev pub AreMany : List Difference → Type 0
AreMany differences = 16 < length differences

-- the request is for an explanation
abbrev pub IsToExplain : Request → Type 0
IsToExplain (Explain kind files) = Unit {0}
IsToExplain (Diff files) = ⊥
IsToExplain (Patch files) = ⊥
IsToExplain (PlanPatch files) = ⊥

-- a request for an explanation needs the models in a table, so no more may be reachable than a
-- table may list
abbrev pub FitsTable : Request → Model → Model → List Difference → Type 0
FitsTable (Explain kind files) planner user differences = ¬ IsFull planner user differences
FitsTable (Diff files) planner user differences = Unit {0}
FitsTable (Patch files) planner user differences = Unit {0}
FitsTable (PlanPatch files) planner user differences = Unit {0}
