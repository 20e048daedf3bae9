-- The status with which a request about files with these contents ends.
use Rattle.std.specs.Prelude.{ℕ, ◌≡◌, ◌⊎◌, ◌≤◌, ◌<◌, List, length}
use Rattle.pddl_text.specs.declared.fault.TextFault.{TextFault}
use Rattle.model_kit.specs.declared.vocabulary.Vocabulary.{Vocabulary}
use Rattle.model_kit.specs.declared.model.Model.{Model}
use Rattle.model_kit.specs.declared.action.GroundAction.{GroundAction}
use Rattle.model_kit.specs.Places.{Place, meaning}
use Rattle.model_kit.specs.Differences.{AreDifferences}
use Rattle.model_kit.specs.Pairs.{Agree, ArePaired}
use Rattle.model_kit.specs.Runs.{IsValid, IsCheapest}
use Rattle.feature_diff.specs.declared.difference.Difference.{Difference}
use Rattle.feature_diff.specs.Differing.{places_of}
use Rattle.ground_core.specs.Grounds.{IsFull}
use Rattle.mre_words.specs.declared.request.Request.{Request}
use Rattle.mre_words.specs.declared.request.Request.TheVariants.{Explain, Diff, Patch, PlanPatch}
use Rattle.request_answers.specs.declared.stop.PlanFault.{PlanFault}
use Rattle.request_answers.specs.Texts.{AreModels, IsPlanIn, IsMisread, has_plan}
use Rattle.request_answers.specs.Counts.{most_parameters, AreSmall}
use Rattle.request_answers.specs.Questions.{IsFault, IsUndercut, AreMany}

-- ---- the plan

-- the plan has a fault in the planner's model; or it is valid there, and the rest decides
abbrev pub AtPlan : Model → List GroundAction → ℕ → Type 0 → Type 0
AtPlan planner plan status Rest =
    ((status ≡ 10) × (fault : PlanFault) × IsFault planner.words (meaning planner) plan fault)
    ⊎ (IsValid (meaning planner) plan × Rest)

-- the plan is undercut; or it is cheapest, and there are too many differences to try every set, or
-- an explanation is found
abbrev pub AtSearch : Model → List GroundAction → List Difference → ℕ → Type 0
AtSearch planner plan differences status =
    ((status ≡ 11) × (costs other : ℕ) × (steps : List (List ℕ))
    × IsUndercut planner.words (meaning planner) plan costs other steps)
    ⊎ (IsCheapest planner.words (meaning planner) plan
    × (((status ≡ 5) × AreMany differences) ⊎ ((status ≡ 0) × (length differences ≤ 16))))

-- more is reachable than a table may list; or it isn't, and the rest decides
abbrev pub AtTable : Model → Model → List Difference → ℕ → Type 0 → Type 0
AtTable planner user differences status Rest =
    ((status ≡ 7) × IsFull planner user differences)
    ⊎ ((¬ IsFull planner user differences) × Rest)

-- the end of each request once the counts of its texts are within their limits
abbrev pub AtQuestion : Request → Model → Model → List GroundAction → List Difference → ℕ → Type 0
AtQuestion (Explain kind files) planner user plan differences status =
    AtTable planner user differences status
    (AtPlan planner plan status (AtSearch planner plan differences status))
AtQuestion (Diff files) planner user plan differences status = status ≡ 0
AtQuestion (Patch files) planner user plan differences status =
    AtPlan planner plan status (status ≡ 0)
AtQuestion (PlanPatch files) planner user plan differences status =
    AtPlan planner plan status (status ≡ 0)

-- ---- the counts

-- there are too many parameters or objects
abbrev pub IsLarge : Vocabulary → Type 0
IsLarge words = (8 < most_parameters words) ⊎ (1000 < length words.objects)

-- there are too many differences, which are counted here, or too many steps
abbrev pub IsPast : List GroundAction → ℕ → Type 0
IsPast plan count = (256 < count) ⊎ (10000 < length plan)

-- the differences are few and the plan is short, and the request decides
pub record AreFew (request : Request) (planner user : Model) (plan : List GroundAction)
    (places : List Place) (status : ℕ) : Type 0 where
  pub differences : List Difference
  pub at_places : places_of differences ≡ places
  pub few : length places ≤ 256
  pub short : length plan ≤ 10000
  pub rest : AtQuestion request planner user plan differences status

-- all differences of the two models: a count is past its limit, or the request decides
pub record AreDiffering (request : Request) (planner user : Model) (plan : List GroundAction)
    (status : ℕ) : Type 0 where
  pub places : List Place
  pub all : AreDifferences planner.words (meaning planner) (meaning user) places
  pub rest : ((status ≡ 7) × IsPast plan (length places))
      ⊎ AreFew request planner user plan places status

-- ---- the pair and the texts

-- the two models in the numbers of their joint vocabulary
pub record AreJoined (request : Request) (planner_read user_read : Model) (plan : List GroundAction)
    (status : ℕ) : Type 0 where
  pub planner : Model
  pub user : Model
  pub paired : ArePaired planner_read user_read planner.words planner user
  pub rest : ((status ≡ 7) × IsLarge planner.words)
      ⊎ (AreSmall planner.words × AreDiffering request planner user plan status)

-- texts of two models and of a plan: the models don't agree, or they are joined
pub record AreRead (request : Request) (contents : List (List ℕ)) (status : ℕ) : Type 0 where
  pub planner_read : Model
  pub user_read : Model
  pub plan : List GroundAction
  pub models : AreModels contents planner_read user_read
  pub planned : IsPlanIn (has_plan request) contents planner_read plan
  pub rest : ((status ≡ 6) × ¬ Agree planner_read.words user_read.words)
      ⊎ AreJoined request planner_read user_read plan status

-- the contents end with this status: a text has a fault, or all are read
pub data EndsAt (request : Request) (contents : List (List ℕ)) (status : ℕ) : Type 0 where
  misread : (file : ℕ) (fault : TextFault) → status ≡ 5 → IsMisread request contents fault file
      → EndsAt request contents status
  read : AreRead request contents status → EndsAt request contents status
