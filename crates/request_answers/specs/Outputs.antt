-- The answers: what a request prints, an explanation or a list of differences.
use Rattle.std.specs.Prelude.{ℕ, ◌≡◌, ◌≤◌, List, ◌++◌, flat_map, length, codes, decimal}
use Rattle.std.specs.Ordering.{nat_cmp}
use Rattle.std.specs.FinSet as set
use Rattle.mre_base.specs.Before.{numbers, count_of}
use Rattle.mre_base.specs.declared.kind.Kind.{Kind}
use Rattle.mre_base.specs.declared.kind.Kind.TheVariants.{Mce, Mme}
use Rattle.model_kit.specs.declared.model.Model.{Model}
use Rattle.model_kit.specs.declared.action.GroundAction.{GroundAction}
use Rattle.model_kit.specs.Places.{meaning}
use Rattle.model_kit.specs.Runs.{IsValid, IsCheapest}
use Rattle.model_kit.specs.Explanations.{Task, IsMCE, IsMME}
use Rattle.model_kit.specs.Sentences.{line, difference_line, explanation}
use Rattle.feature_diff.specs.declared.difference.Difference.{Difference}
use Rattle.feature_diff.specs.Differing.{places_of}
use Rattle.ground_core.specs.Grounds.{IsFull}
use Rattle.plan_uses.specs.Uses.{AreUsed}
use Rattle.explain_text.specs.Lines.{kind_name}
use Rattle.cube_kit.specs.Cubes.{all_to}
use Rattle.mre_words.specs.declared.request.Request.{Request}
use Rattle.mre_words.specs.declared.request.Request.TheVariants.{Explain, Diff, Patch, PlanPatch}
use Rattle.request_answers.specs.Questions.{AreCounted}
use Rattle.request_answers.specs.Tasks.{even_task}

-- ---- explanations

-- the set is the MCE, or the MME
abbrev pub IsOfKind : Kind → Task → set.FinSet nat_cmp → Type 0
IsOfKind Mce task told = IsMCE task told
IsOfKind Mme task told = IsMME task told

-- a request for an explanation is for an MCE
abbrev pub AsksMce : Request → Type 0
AsksMce (Explain kind files) = kind ≡ Mce
AsksMce (Diff files) = Unit {0}
AsksMce (Patch files) = Unit {0}
AsksMce (PlanPatch files) = Unit {0}

-- the contents ask a question, no more is reachable in the two models than a table may list, there
-- are few enough differences to try every set, the plan is cheapest in the planner's model, and the
-- set is the first of its kind in the task where each difference weighs 1
pub record IsExplained (request : Request) (contents : List (List ℕ)) (kind : Kind) (task : Task)
    (told : set.FinSet nat_cmp) : Type 0 where
  pub planner : Model
  pub user : Model
  pub plan : List GroundAction
  pub differences : List Difference
  pub counted : AreCounted request contents planner user plan differences
  pub table : ¬ IsFull planner user differences
  pub few : length differences ≤ 16
  pub cheapest : IsCheapest planner.words (meaning planner) plan
  pub task_is : task ≡ even_task planner user differences plan
  pub first : IsOfKind kind task told

-- ---- lists of differences

-- the set has all numbers from 1 to a count
abbrev pub AreAll : ℕ → set.FinSet nat_cmp → Type 0
AreAll count chosen = chosen ≡ all_to count

-- what a request for a list demands of the plan, and which differences it lists
abbrev pub IsChoice : Request → Model → List GroundAction → List Difference → set.FinSet nat_cmp
    → Type 0
IsChoice (Diff files) planner plan differences chosen = AreAll (length differences) chosen
IsChoice (Patch files) planner plan differences chosen =
    IsValid (meaning planner) plan × AreAll (length differences) chosen
IsChoice (PlanPatch files) planner plan differences chosen =
    IsValid (meaning planner) plan × AreUsed plan (places_of differences) chosen
IsChoice (Explain kind files) planner plan differences chosen = ⊥

-- the first line of a list, with the number of chosen differences and of all
abbrev pub list_head : Request → ℕ → ℕ → List ℕ
list_head (Diff files) chosen all = codes "differences " ++ decimal all
list_head (Patch files) chosen all =
    codes "patch " ++ (decimal chosen ++ (codes " of " ++ decimal all))
list_head (PlanPatch files) chosen all =
    codes "plan-patch " ++ (decimal chosen ++ (codes " of " ++ decimal all))
list_head (Explain kind files) chosen all = codes ""

-- the first line, and after it the line of each chosen difference in ascending order
abbrev pub listing : Request → Task → set.FinSet nat_cmp → List ℕ
listing request task chosen =
    line (list_head request (count_of chosen) (length task.places))
    ++ flat_map (difference_line task) (numbers (length task.places) chosen)

-- the contents ask a question, the request chooses these of its differences, and the text lists
-- them
pub record IsListed (request : Request) (contents : List (List ℕ)) (chosen : set.FinSet nat_cmp)
    (text : List ℕ) : Type 0 where
  pub planner : Model
  pub user : Model
  pub plan : List GroundAction
  pub differences : List Difference
  pub counted : AreCounted request contents planner user plan differences
  pub choice : IsChoice request planner plan differences chosen
  pub text_is : text ≡ listing request (even_task planner user differences plan) chosen

-- ---- each request

-- the request prints the text about these contents, and the text has the differences in the set
abbrev pub IsAnswer : Request → List (List ℕ) → set.FinSet nat_cmp → List ℕ → Type 0
IsAnswer (Explain kind files) contents told text =
    (task : Task) × IsExplained (Explain kind files) contents kind task told
    × (text ≡ explanation (kind_name kind) task told)
IsAnswer request contents told text = IsListed request contents told text
