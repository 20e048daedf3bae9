-- Laws of explanations: when there are an MCE and an MME, that each is the only one, and how the
-- two compare.
use Rattle.std.specs.Prelude.{ℕ, ◌≡◌, ◌≤◌, List, length, All, IsFalse}
use Rattle.std.specs.Ordering.{nat_cmp}
use Rattle.std.specs.FinSet as set
use Rattle.mre_base.specs.Before.{numbers, weight, is_before}
use Rattle.model_kit.specs.declared.model.Model.{Model}
use Rattle.model_kit.specs.declared.vocabulary.Vocabulary.{Vocabulary}
use Rattle.model_kit.specs.declared.action.GroundAction.{GroundAction}
use Rattle.model_kit.specs.Vocabulary.{IsGroundAction}
use Rattle.model_kit.specs.Places.{Place, meaning}
use Rattle.model_kit.specs.Pairs.{ArePaired}
use Rattle.model_kit.specs.Runs.{IsCheapest}
use Rattle.model_kit.specs.Explanations.{Task, IsPosed, IsMCE, IsMME}

abbrev pub AtMostOne : (set.FinSet nat_cmp → Type 0) → Type 0
AtMostOne P = (a b : set.FinSet nat_cmp) → P a → P b → a ≡ b

-- where the plan is cheapest in the planner's model there is an MCE, and never two
pub record MCELaw (task : Task) : Type 0 where
  pub exists : IsCheapest task.words task.planner task.plan
      → (mce : set.FinSet nat_cmp) × IsMCE task mce
  pub one : AtMostOne (IsMCE task)

-- there is an MME exactly where the plan is cheapest in the planner's model, and never two
pub record MMELaw (task : Task) : Type 0 where
  pub exists : IsCheapest task.words task.planner task.plan
      → (mme : set.FinSet nat_cmp) × IsMME task mme
  pub only : (mme : set.FinSet nat_cmp) → IsMME task mme
      → IsCheapest task.words task.planner task.plan
  pub one : AtMostOne (IsMME task)

-- the weight of a set of differences
abbrev pub weight_of : Task → set.FinSet nat_cmp → ℕ
weight_of task told = weight task.weights (numbers (length task.weights) told)

-- where there is an MME there is an MCE, and the MME is never before the MCE and has no smaller
-- weight
pub record OrderLaw (task : Task) : Type 0 where
  pub exists : (mme : set.FinSet nat_cmp) → IsMME task mme
      → (mce : set.FinSet nat_cmp) × IsMCE task mce
  pub never_before : (mme mce : set.FinSet nat_cmp) → IsMME task mme → IsMCE task mce
      → IsFalse (is_before task.weights mme mce)
  pub no_lighter : (mme mce : set.FinSet nat_cmp) → IsMME task mme → IsMCE task mce
      → weight_of task mce ≤ weight_of task mme

-- the task of two models in the numbers of one vocabulary
abbrev pub task_of : Vocabulary → Model → Model → List Place → List ℕ → List GroundAction → Task
task_of words planner user places weights plan = record {
  words = words;
  planner = meaning planner;
  user = meaning user;
  places = places;
  weights = weights;
  plan = plan;
}

-- the law of two models that agree, a plan in the planner's vocabulary and weights: of their task
-- in the joint vocabulary
abbrev pub LawOf : (Task → Type 0) → Model → Model → List GroundAction → List ℕ → Type 0
LawOf Law planner user plan weights =
    (words : Vocabulary) (joint_planner joint_user : Model) (places : List Place)
    → ArePaired planner user words joint_planner joint_user
    → All (IsGroundAction planner.words) plan
    → IsPosed (task_of words joint_planner joint_user places weights plan)
    → Law (task_of words joint_planner joint_user places weights plan)
