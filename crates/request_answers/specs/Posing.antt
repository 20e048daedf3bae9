-- The question of the program and the question that the contents ask: its models and plan.
use Rattle.std.specs.Prelude.{ℕ, ◌≡◌, List, [], All}
use Rattle.model_kit.specs.Vocabulary.{IsGroundAction}
use Rattle.model_kit.specs.Pairs.{ArePaired}
use Rattle.mre_words.specs.declared.request.Request.{Request}
use Rattle.request_answers.specs.declared.question.Question.{Question}
use Rattle.request_answers.specs.declared.question.Texts.{Texts}
use Rattle.request_answers.specs.Texts.{AreModels, IsPlanIn, has_plan}
use Rattle.request_answers.specs.Questions.{Pose}

-- the contents are texts of these models and this plan, which fits the planner's model
pub record AreTexts (request : Request) (contents : List (List ℕ)) (texts : Texts) : Type 0 where
  pub models : AreModels contents texts.models.planner texts.models.user
  pub planned : IsPlanIn (has_plan request) contents texts.models.planner texts.plan.steps
  pub fits : All (IsGroundAction texts.models.planner.words) texts.plan.steps
  pub planner_whole : texts.models.planner.unknown ≡ []
  pub user_whole : texts.models.user.unknown ≡ []

-- the question is of these models and this plan
pub record IsJoined (texts : Texts) (question : Question) : Type 0 where
  pub paired : ArePaired texts.models.planner texts.models.user question.pair.planner.words
      question.pair.planner question.pair.user
  pub plan : question.plan ≡ texts.plan

-- the contents ask this question
pub record IsQuestion (request : Request) (contents : List (List ℕ))
    (question : Question) : Type 0 where
  pub pose : Pose request contents question.pair.planner question.pair.user question.plan.steps
  pub fits : All (IsGroundAction question.pair.planner.words) question.plan.steps
