-- Why a step on the way from the contents to an answer stops. Most steps can run out of memory.
use Rattle.std.specs.Prelude.{ℕ, ◌≡◌, ◌<◌, List, length}
use Rattle.pddl_text.specs.declared.fault.TextFault.{TextFault}
use Rattle.model_kit.specs.declared.vocabulary.Vocabulary.{Vocabulary}
use Rattle.model_kit.specs.declared.model.Model.{Model}
use Rattle.model_kit.specs.declared.action.GroundAction.{GroundAction}
use Rattle.model_kit.specs.Places.{Meaning, meaning}
use Rattle.model_kit.specs.Runs.{IsCheapest}
use Rattle.feature_diff.specs.declared.difference.Difference.{Difference}
use Rattle.cube_kit.specs.Cubes.{all_to}
use Rattle.task_kit.specs.Tasks.{cost_of}
use Rattle.case_kit.specs.Members.{member}
use Rattle.table_explanations.specs.Explanations as numbers
use Rattle.ground_core.specs.declared.table.Ground.{Ground}
use Rattle.ground_core.specs.declared.stop.GroundStop.{GroundStop}
use Rattle.ground_core.specs.declared.stop.GroundStop.TheVariants as grounds
use Rattle.ground_core.specs.Grounds.{IsFull}
use Rattle.ground_core.specs.Stops.{ManyAtoms, ManyActions}
use Rattle.mre_words.specs.declared.request.Request.{Request}
use Rattle.request_answers.specs.declared.stop.AnswerStop.{AnswerStop}
use Rattle.request_answers.specs.declared.stop.AnswerStop.TheVariants.{Misread, Disagree}
use Rattle.request_answers.specs.declared.stop.AnswerStop.TheVariants.{TooManyParameters}
use Rattle.request_answers.specs.declared.stop.AnswerStop.TheVariants.{TooManyObjects}
use Rattle.request_answers.specs.declared.stop.AnswerStop.TheVariants.{TooManyDifferences}
use Rattle.request_answers.specs.declared.stop.AnswerStop.TheVariants.{TooManySteps, TooManyActions}
use Rattle.request_answers.specs.declared.stop.AnswerStop.TheVariants.{TooManyAtoms, NotValid}
use Rattle.request_answers.specs.declared.stop.AnswerStop.TheVariants.{Unbuilt, NotCheapest}
use Rattle.request_answers.specs.declared.stop.AnswerStop.TheVariants.{NoMemory}
use Rattle.request_answers.specs.Texts.{IsMisread, IsMisreadModel, IsMisreadPlan}
use Rattle.request_answers.specs.Counts.{AreTooManyParameters, AreTooManyObjects}
use Rattle.request_answers.specs.Counts.{AreTooManyDifferences, AreTooManySteps}
use Rattle.request_answers.specs.Questions.{IsFault, IsUndercut}
use Rattle.request_answers.specs.Causes.{HaveDisagreement}
use Rattle.request_answers.specs.Tables.{forms_of}
use Rattle.joint_models.specs.Disagreements.{IsFirstDisagreement}
use Rattle.model_kit.specs.Pairs.{Agree}

-- the text at a place has a fault with this property
abbrev pub IsOfText : ℕ → (TextFault → Type 0) → AnswerStop → Type 0
IsOfText place IsFaultOf (Misread file fault) = (file ≡ place) × IsFaultOf fault
IsOfText place IsFaultOf NoMemory = Unit {0}
IsOfText place IsFaultOf _ = ⊥

-- a text of a model has a fault
abbrev pub IsOfModels : List (List ℕ) → AnswerStop → Type 0
IsOfModels contents (Misread file fault) = IsMisreadModel contents fault file
IsOfModels contents NoMemory = Unit {0}
IsOfModels contents _ = ⊥

-- the plan's text has a fault
abbrev pub IsOfPlanText : Request → List (List ℕ) → Model → AnswerStop → Type 0
IsOfPlanText request contents planner (Misread file fault) =
    IsMisreadPlan request contents planner fault file
IsOfPlanText request contents planner NoMemory = Unit {0}
IsOfPlanText request contents planner _ = ⊥

-- two vocabularies don't agree
abbrev pub IsOfPairing : Vocabulary → Vocabulary → AnswerStop → Type 0
IsOfPairing planner user (Disagree fault) =
    IsFirstDisagreement planner user fault × ¬ Agree planner user
IsOfPairing planner user NoMemory = Unit {0}
IsOfPairing planner user _ = ⊥

-- a text has a fault, or the models don't agree
abbrev pub IsOfQuestion : Request → List (List ℕ) → AnswerStop → Type 0
IsOfQuestion request contents (Misread file fault) = IsMisread request contents fault file
IsOfQuestion request contents (Disagree fault) = HaveDisagreement request contents fault
IsOfQuestion request contents NoMemory = Unit {0}
IsOfQuestion request contents _ = ⊥

-- there are too many parameters or objects
abbrev pub IsOfWords : Vocabulary → AnswerStop → Type 0
IsOfWords words (TooManyParameters found) = AreTooManyParameters words found
IsOfWords words (TooManyObjects found) = AreTooManyObjects words found
IsOfWords words _ = ⊥

-- a count is past its limit
abbrev pub IsOfCounts : Model → Model → List GroundAction → AnswerStop → Type 0
IsOfCounts planner user plan (TooManyParameters found) = AreTooManyParameters planner.words found
IsOfCounts planner user plan (TooManyObjects found) = AreTooManyObjects planner.words found
IsOfCounts planner user plan (TooManyDifferences found) = AreTooManyDifferences planner user found
IsOfCounts planner user plan (TooManySteps found) = AreTooManySteps planner user plan found
IsOfCounts planner user plan NoMemory = Unit {0}
IsOfCounts planner user plan _ = ⊥

-- the plan isn't valid
abbrev pub IsOfPlan : Vocabulary → Meaning → List GroundAction → AnswerStop → Type 0
IsOfPlan words model plan (NotValid fault) = IsFault words model plan fault
IsOfPlan words model plan NoMemory = Unit {0}
IsOfPlan words model plan _ = ⊥

-- a stop of grounding
abbrev pub stop_of : GroundStop → AnswerStop
stop_of (grounds.TooManyActions limit) = TooManyActions
stop_of (grounds.TooManyAtoms limit) = TooManyAtoms
stop_of grounds.NoMemory = NoMemory

-- more is reachable than a table may list
abbrev pub IsOfGround : Model → Model → List Difference → AnswerStop → Type 0
IsOfGround planner user differences TooManyActions = ManyActions planner user differences
IsOfGround planner user differences TooManyAtoms = ManyAtoms planner user differences
IsOfGround planner user differences NoMemory = Unit {0}
IsOfGround planner user differences _ = ⊥

-- in the task after all differences a cheapest list costs less than this, and these are its printed
-- forms
pub record IsUndercutBy (ground : Ground) (cost other : ℕ) (steps : List (List ℕ)) : Type 0 where
  pub list : List ℕ
  pub cheapest : numbers.IsCheapest (member ground.table (all_to ground.table.d)) list
  pub printed : steps ≡ forms_of ground.names.actions.items list
  pub other_is : other ≡ cost_of (member ground.table (all_to ground.table.d)) list
  pub less : other < cost

-- the plan isn't cheapest after all differences
abbrev pub IsOfList : Ground → ℕ → AnswerStop → Type 0
IsOfList ground cost (NotCheapest costs other steps) =
    (costs ≡ cost) × IsUndercutBy ground cost other steps
IsOfList ground cost NoMemory = Unit {0}
IsOfList ground cost _ = ⊥

-- why a plan isn't explained, where no more is reachable than a table may list: it isn't valid, it
-- isn't cheapest, or there are too many differences to try every set
abbrev pub IsOfSearch : Model → List GroundAction → ℕ → AnswerStop → Type 0
IsOfSearch planner plan count (NotValid fault) =
    IsFault planner.words (meaning planner) plan fault
IsOfSearch planner plan count (NotCheapest cost other steps) =
    IsUndercut planner.words (meaning planner) plan cost other steps
IsOfSearch planner plan count Unbuilt =
    IsCheapest planner.words (meaning planner) plan × (16 < count)
IsOfSearch planner plan count NoMemory = Unit {0}
IsOfSearch planner plan count _ = ⊥

-- why a plan isn't explained
pub data IsOfExplaining (planner user : Model) (plan : List GroundAction)
    (differences : List Difference) (stop : AnswerStop) : Type 0 where
  full : IsOfGround planner user differences stop
      → IsOfExplaining planner user plan differences stop
  searched : ¬ IsFull planner user differences → IsOfSearch planner plan (length differences) stop
      → IsOfExplaining planner user plan differences stop
