-- The joined models of texts are the question of the contents, and models that can't be joined disagree.
use Rattle.std.proofs.Common.{ℕ, List, sym, subst}
use Rattle.std.specs.Prelude.{All}
use Rattle.model_kit.specs.declared.action.Plan.{Plan}
use Rattle.model_kit.specs.Vocabulary.{IsGroundAction}
use Rattle.model_kit.proofs.PairLemmas.{plan_ground}
use Rattle.mre_words.specs.declared.request.Request.{Request}
use Rattle.request_answers.specs.declared.question.Question.{Question}
use Rattle.request_answers.specs.declared.question.Texts.{Texts}
use Rattle.request_answers.specs.declared.stop.AnswerStop.{AnswerStop}
use Rattle.request_answers.specs.declared.stop.AnswerStop.TheVariants.{Disagree, NoMemory}
use Rattle.request_answers.specs.Texts.{IsPlanIn, has_plan}
use Rattle.request_answers.specs.Posing.{AreTexts, IsJoined, IsQuestion}
use Rattle.request_answers.specs.Steps.{IsOfPairing, IsOfQuestion}

module _ (request : Request) (contents : List (List ℕ)) (texts : Texts) (are : AreTexts request contents texts) where
  pub question_of : (question : Question) → IsJoined texts question → IsQuestion request contents question
  question_of question joined =
      let planner = texts.models.planner in
      let user = texts.models.user in
      let steps_fit = subst (λ (plan : Plan). All (IsGroundAction planner.words) plan.steps) (sym joined.plan) are.fits in record {
        pose = record {
          planner_read = planner;
          user_read = user;
          models = are.models;
          planned = subst (λ (plan : Plan). IsPlanIn (has_plan request) contents planner plan.steps) (sym joined.plan) are.planned;
          paired = joined.paired;
        };
        fits = plan_ground planner.words user.words question.pair.planner.words joined.paired.joint question.plan.steps steps_fit;
      }

  pub apart : (stop : AnswerStop) → IsOfPairing texts.models.planner.words texts.models.user.words stop → IsOfQuestion request contents stop
  apart (Disagree fault) of = record {
    planner_read = texts.models.planner;
    user_read = texts.models.user;
    plan = texts.plan.steps;
    models = are.models;
    planned = are.planned;
    apart = of.1;
    first = of.0;
  }
  apart NoMemory of = tt
  apart _ of = absurd of
