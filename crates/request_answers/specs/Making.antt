-- The answer to a question with its models, its plan and its differences, or why there isn't one.
use Rattle.std.specs.Prelude.{ℕ, ◌≡◌, ◌≤◌, List, length}
use Rattle.std.specs.Ordering.{nat_cmp}
use Rattle.std.specs.FinSet as set
use Rattle.mre_base.specs.declared.kind.Kind.{Kind}
use Rattle.model_kit.specs.Places.{meaning}
use Rattle.model_kit.specs.Runs.{IsCheapest}
use Rattle.model_kit.specs.Explanations.{Task}
use Rattle.model_kit.specs.Sentences.{explanation}
use Rattle.feature_diff.specs.declared.difference.Difference.{Difference}
use Rattle.ground_core.specs.Grounds.{IsFull}
use Rattle.explain_text.specs.Lines.{kind_name}
use Rattle.mre_words.specs.declared.request.Request.{Request}
use Rattle.mre_words.specs.declared.request.Request.TheVariants.{Explain, Diff, Patch, PlanPatch}
use Rattle.request_answers.specs.declared.question.Question.{Question}
use Rattle.request_answers.specs.declared.stop.AnswerStop.{AnswerStop}
use Rattle.request_answers.specs.declared.stop.AnswerStop.TheVariants.{NoMemory}
use Rattle.request_answers.specs.Counts.{AreWithinLimits}
use Rattle.request_answers.specs.Outputs.{IsOfKind, IsChoice, listing}
use Rattle.request_answers.specs.Steps.{IsOfCounts, IsOfPlan, IsOfExplaining}
use Rattle.request_answers.specs.Tasks.{even_task}

-- the task of a question, in which each difference weighs 1
abbrev pub task_in : Question → List Difference → Task
task_in question differences =
    even_task question.pair.planner question.pair.user differences question.plan.steps

-- the plan is cheapest in the planner's model, the set is the first of its kind, and the text is
-- its explanation
pub record IsExplanation (kind : Kind) (question : Question) (differences : List Difference)
    (told : set.FinSet nat_cmp) (text : List ℕ) : Type 0 where
  pub table : ¬ IsFull question.pair.planner question.pair.user differences
  pub few : length differences ≤ 16
  pub cheapest : IsCheapest question.pair.planner.words (meaning question.pair.planner)
      question.plan.steps
  pub first : IsOfKind kind (task_in question differences) told
  pub text_is : text ≡ explanation (kind_name kind) (task_in question differences) told

-- the request chooses these differences, and the text lists them
pub record IsList (request : Request) (question : Question) (differences : List Difference)
    (chosen : set.FinSet nat_cmp) (text : List ℕ) : Type 0 where
  pub choice : IsChoice request question.pair.planner question.plan.steps differences chosen
  pub text_is : text ≡ listing request (task_in question differences) chosen

-- the answer of each request to a question with these differences
abbrev pub IsMade : Request → Question → List Difference → set.FinSet nat_cmp → List ℕ → Type 0
IsMade (Explain kind files) question differences told text =
    IsExplanation kind question differences told text
IsMade request question differences told text = IsList request question differences told text

-- why a request has no answer to it
abbrev pub IsOfMaking : Request → Question → List Difference → AnswerStop → Type 0
IsOfMaking (Explain kind files) question differences stop =
    IsOfExplaining question.pair.planner question.pair.user question.plan.steps differences stop
IsOfMaking (Diff files) question differences NoMemory = Unit {0}
IsOfMaking (Diff files) question differences _ = ⊥
IsOfMaking (Patch files) question differences stop =
    IsOfPlan question.pair.planner.words (meaning question.pair.planner) question.plan.steps stop
IsOfMaking (PlanPatch files) question differences stop =
    IsOfPlan question.pair.planner.words (meaning question.pair.planner) question.plan.steps stop

-- the answer to a question, of which no count is past its limit
pub record IsMadeOf (request : Request) (question : Question) (told : set.FinSet nat_cmp)
    (text : List ℕ) : Type 0 where
  pub differences : List Difference
  pub limits : AreWithinLimits question.pair.planner question.pair.user question.plan.steps
      differences
  pub made : IsMade request question differences told text

-- why a question has no answer: a count is past its limit, or none is and a later step stops
pub data IsOfAnswering (request : Request) (question : Question) (stop : AnswerStop) : Type 0 where
  counted : IsOfCounts question.pair.planner question.pair.user question.plan.steps stop
      → IsOfAnswering request question stop
  made : (differences : List Difference)
      → AreWithinLimits question.pair.planner question.pair.user question.plan.steps differences
      → IsOfMaking request question differences stop
      → IsOfAnswering request question stop
