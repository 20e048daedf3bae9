-- The first ill-formed text, from the step that stopped at it.
use Rattle.std.proofs.Common.{ℕ, List, sym, subst}
use Rattle.pddl_text.specs.declared.fault.TextFault.{TextFault}
use Rattle.model_kit.specs.declared.model.Model.{Model}
use Rattle.mre_words.specs.declared.request.Request.{Request}
use Rattle.request_answers.specs.declared.stop.AnswerStop.{AnswerStop}
use Rattle.request_answers.specs.declared.stop.AnswerStop.TheVariants.{Misread, NoMemory}
use Rattle.request_answers.specs.Texts.{AreModels, IsMisreadModel, of_model, of_plan}
use Rattle.request_answers.specs.Steps.{IsOfText, IsOfModels, IsOfPlanText, IsOfQuestion}

module _ (contents : List (List ℕ)) where
  pub of_text : (place : ℕ) (IsFaultOf : TextFault → Type 0) → ((fault : TextFault) → IsFaultOf fault → IsMisreadModel contents fault place)
      → (stop : AnswerStop) → IsOfText place IsFaultOf stop → IsOfModels contents stop
  of_text place IsFaultOf first (Misread file fault) of = subst (IsMisreadModel contents fault) (sym of.0) (first fault of.1)
  of_text place IsFaultOf first NoMemory of = tt
  of_text place IsFaultOf first _ of = absurd of

  pub of_models : (request : Request) (stop : AnswerStop) → IsOfModels contents stop → IsOfQuestion request contents stop
  of_models request (Misread file fault) of = of_model of
  of_models request NoMemory of = tt
  of_models request _ of = absurd of

  pub of_steps : (request : Request) (planner user : Model) → AreModels contents planner user → (stop : AnswerStop) → IsOfPlanText request contents planner stop → IsOfQuestion request contents stop
  of_steps request planner user models (Misread file fault) of = of_plan planner user models of
  of_steps request planner user models NoMemory of = tt
  of_steps request planner user models _ of = absurd of
