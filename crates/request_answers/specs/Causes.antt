-- The cause of each stop: why a request about files with these contents has no answer.
use Rattle.std.specs.Prelude.{ℕ, IsTrue, List}
use Rattle.model_kit.specs.declared.model.Model.{Model}
use Rattle.model_kit.specs.declared.action.GroundAction.{GroundAction}
use Rattle.model_kit.specs.Places.{meaning}
use Rattle.model_kit.specs.Runs.{IsCheapest}
use Rattle.joint_models.specs.declared.stop.PairFault.{PairFault}
use Rattle.joint_models.specs.Disagreements.{IsFirstDisagreement}
use Rattle.model_kit.specs.Pairs.{Agree}
use Rattle.feature_diff.specs.declared.difference.Difference.{Difference}
use Rattle.ground_core.specs.Grounds.{IsFull}
use Rattle.ground_core.specs.Stops.{ManyAtoms, ManyActions}
use Rattle.mre_words.specs.declared.request.Request.{Request}
use Rattle.request_answers.specs.declared.stop.AnswerStop.{AnswerStop}
use Rattle.request_answers.specs.declared.stop.AnswerStop.TheVariants.{Misread, Disagree}
use Rattle.request_answers.specs.declared.stop.AnswerStop.TheVariants.{TooManyParameters}
use Rattle.request_answers.specs.declared.stop.AnswerStop.TheVariants.{TooManyObjects}
use Rattle.request_answers.specs.declared.stop.AnswerStop.TheVariants.{TooManyDifferences}
use Rattle.request_answers.specs.declared.stop.AnswerStop.TheVariants.{TooManySteps, TooManyActions}
use Rattle.request_answers.specs.declared.stop.AnswerStop.TheVariants.{TooManyAtoms, NotValid}
use Rattle.request_answers.specs.declared.stop.AnswerStop.TheVariants.{Unbuilt, NotCheapest}
use Rattle.request_answers.specs.declared.stop.AnswerStop.TheVariants.{NoMemory}
use Rattle.request_answers.specs.declared.stop.PlanFault.{PlanFault}
use Rattle.request_answers.specs.Texts.{AreModels, IsPlanIn, IsMisread, has_plan}
use Rattle.request_answers.specs.Counts.{AreTooManyParameters, AreTooManyObjects}
use Rattle.request_answers.specs.Counts.{AreTooManyDifferences, AreTooManySteps}
use Rattle.request_answers.specs.Questions.{Pose, AreCounted, IsFault, IsUndercut, AreMany}
use Rattle.request_answers.specs.Questions.{IsToExplain, FitsTable}

-- the contents are texts of two models that don't agree, and this is their first disagreement
pub record HaveDisagreement (request : Request) (contents : List (List ℕ))
    (fault : PairFault) : Type 0 where
  pub planner_read : Model
  pub user_read : Model
  pub plan : List GroundAction
  pub models : AreModels contents planner_read user_read
  pub planned : IsPlanIn (has_plan request) contents planner_read plan
  pub apart : ¬ Agree planner_read.words user_read.words
  pub first : IsFirstDisagreement planner_read.words user_read.words fault

-- the contents ask a question, and a count of it is past its limit
pub record HavePast (request : Request) (contents : List (List ℕ))
    (IsPast : Model → Model → List GroundAction → Type 0) : Type 0 where
  pub planner : Model
  pub user : Model
  pub plan : List GroundAction
  pub pose : Pose request contents planner user plan
  pub past : IsPast planner user plan

-- the contents ask a question about a plan, no count is past its limit, and the plan has this fault
-- in the planner's model
pub record HaveFault (request : Request) (contents : List (List ℕ))
    (fault : PlanFault) : Type 0 where
  pub planner : Model
  pub user : Model
  pub plan : List GroundAction
  pub differences : List Difference
  pub counted : AreCounted request contents planner user plan differences
  pub planned : IsTrue (has_plan request)
  pub table : FitsTable request planner user differences
  pub is : IsFault planner.words (meaning planner) plan fault

-- the contents ask for an explanation, no count before is past its limit, and too many atoms or
-- ground actions are reachable in the two models
pub record HaveFull (request : Request) (contents : List (List ℕ))
    (Many : Model → Model → List Difference → Type 0) : Type 0 where
  pub planner : Model
  pub user : Model
  pub plan : List GroundAction
  pub differences : List Difference
  pub counted : AreCounted request contents planner user plan differences
  pub asked : IsToExplain request
  pub many : Many planner user differences

-- the contents ask for an explanation of a plan that isn't cheapest in the planner's model, and the
-- printed steps are a cheapest plan there
pub record HaveCheaper (request : Request) (contents : List (List ℕ)) (cost other : ℕ)
    (steps : List (List ℕ)) : Type 0 where
  pub planner : Model
  pub user : Model
  pub plan : List GroundAction
  pub differences : List Difference
  pub counted : AreCounted request contents planner user plan differences
  pub asked : IsToExplain request
  pub table : ¬ IsFull planner user differences
  pub undercut : IsUndercut planner.words (meaning planner) plan cost other steps

-- the contents ask for an explanation of a plan that is cheapest in the planner's model, and there
-- are too many differences to try every set
pub record HaveMany (request : Request) (contents : List (List ℕ)) : Type 0 where
  pub planner : Model
  pub user : Model
  pub plan : List GroundAction
  pub differences : List Difference
  pub counted : AreCounted request contents planner user plan differences
  pub asked : IsToExplain request
  pub table : ¬ IsFull planner user differences
  pub cheapest : IsCheapest planner.words (meaning planner) plan
  pub many : AreMany differences

-- the contents are the cause of the stop; any contents can run out of memory
abbrev pub IsDue : Request → List (List ℕ) → AnswerStop → Type 0
IsDue request contents (Misread file fault) = IsMisread request contents fault file
IsDue request contents (Disagree fault) = HaveDisagreement request contents fault
IsDue request contents (TooManyParameters found) =
    HavePast request contents (λ planner user plan. AreTooManyParameters planner.words found)
IsDue request contents (TooManyObjects found) =
    HavePast request contents (λ planner user plan. AreTooManyObjects planner.words found)
IsDue request contents (TooManyDifferences found) =
    HavePast request contents (λ planner user plan. AreTooManyDifferences planner user found)
IsDue request contents (TooManySteps found) =
    HavePast request contents (λ planner user plan. AreTooManySteps planner user plan found)
IsDue request contents TooManyActions = HaveFull request contents ManyActions
IsDue request contents TooManyAtoms = HaveFull request contents ManyAtoms
IsDue request contents (NotValid fault) = HaveFault request contents fault
IsDue request contents (NotCheapest cost other steps) =
    HaveCheaper request contents cost other steps
IsDue request contents Unbuilt = HaveMany request contents
IsDue request contents NoMemory = Unit {0}
