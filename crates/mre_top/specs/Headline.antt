-- The promise of an explanation, on one page. The bytes of the files spell two models that agree,
-- and a plan that is cheapest in the planner's model. The told set is the first complete set of the
-- differences of the two models: after them the plan is cheapest in the user's model too. And what
-- was printed is the explanation that tells this set.
use Rattle.std.specs.Prelude.{◌≡◌, ℕ, List, length, replicate, Some, codes}
use Rattle.std.specs.Io.KnownBytes.{Appends}
use Rattle.std.specs.Ordering.{nat_cmp}
use Rattle.std.specs.FinSet as set
use Rattle.mre_base.specs.declared.kind.Kind.TheVariants.{Mce}
use Rattle.model_kit.specs.declared.action.GroundAction.{GroundAction}
use Rattle.model_kit.specs.declared.model.Model.{Model}
use Rattle.model_kit.specs.Differences.{AreDifferences}
use Rattle.model_kit.specs.Explanations.{Task, IsMCE}
use Rattle.model_kit.specs.Pairs.{ArePaired}
use Rattle.model_kit.specs.Places.{meaning}
use Rattle.model_kit.specs.Runs.{IsCheapest}
use Rattle.model_kit.specs.Sentences.{explanation}
use Rattle.mre_words.specs.declared.request.Request.TheVariants.{Explain}
use Rattle.request_answers.specs.Texts.{AreModels, IsTextOfPlan, text_at}
use Rattle.mre_top.specs.declared.top.Outcome.{Outcome}
use Rattle.mre_top.specs.Calls.{Call}
use Rattle.mre_top.specs.Reads.{AreRead}

-- the first four contents spell the models of the planner and of the user, and the fifth a plan
pub record Spell (contents : List (List ℕ)) (planner user : Model)
    (plan : List GroundAction) : Type 0 where
  pub models : AreModels contents planner user
  pub plan_text : IsTextOfPlan planner.words (text_at contents 4) plan

-- the task has two models that agree, in the words of both, all their differences, each of weight
-- 1, and a plan that is cheapest in the planner's model
pub record IsTaskOf (planner user : Model) (plan : List GroundAction) (task : Task) : Type 0 where
  pub joint_planner : Model
  pub joint_user : Model
  pub agree : ArePaired planner user task.words joint_planner joint_user
  pub planner_is : task.planner ≡ meaning joint_planner
  pub user_is : task.user ≡ meaning joint_user
  pub plan_is : task.plan ≡ plan
  pub differences : AreDifferences task.words task.planner task.user task.places
  pub weights : task.weights ≡ replicate (length task.places) 1
  pub cheapest : IsCheapest task.words task.planner task.plan

-- the files under these names are explained by what was printed, which tells this set
pub record AreExplained (names : List (List ℕ)) (call : Call)
    (told : set.FinSet nat_cmp) : Type 0 where
  pub contents : List (List ℕ)
  pub read : AreRead call.shelf.held.old names contents
  pub planner : Model
  pub user : Model
  pub plan : List GroundAction
  pub spelled : Spell contents planner user plan
  pub task : Task
  pub posed : IsTaskOf planner user plan task
  pub first : IsMCE task told
  pub printed : Appends call.out.written.old call.out.written.new
      (explanation (codes "mce") task told)

-- where the words ask for an explanation and the status is 0, the answer is such a set
abbrev pub Headline : Call → Outcome → Type 0
Headline call outcome =
    (names : List (List ℕ)) → call.request ≡ Some (Explain Mce names) → outcome.status ≡ 0
    → (told : set.FinSet nat_cmp) × (outcome.answer ≡ Some (record { kind = Mce; told = told }))
    × AreExplained names call told
