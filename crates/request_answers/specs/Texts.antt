-- What the contents of a request's files are: the texts of two models and of a plan; or the first
-- ill-formed text, with its first fault.
use Rattle.std.specs.Prelude.{ℕ, ◌≡◌, ◌≤◌, Bool, true, false, IsTrue, List, [], length, All}
use Rattle.std.specs.Prelude.{slice_index_or}
use Rattle.pddl_text.specs.declared.fault.TextFault.{TextFault}
use Rattle.model_kit.specs.declared.model.Model.{Model}
use Rattle.model_kit.specs.declared.vocabulary.Vocabulary.{Vocabulary}
use Rattle.model_kit.specs.declared.action.GroundAction.{GroundAction}
use Rattle.model_kit.specs.declared.action.Plan.{Plan}
use Rattle.pddl_names.specs.PlanNames.{IsPlanText, IsFirstFault}
use Rattle.pddl_models.specs.declared.domain.Domain.{Domain}
use Rattle.pddl_read.specs.Texts.{IsDomainText, IsProblemText, IsDomainFault, IsProblemFault}
use Rattle.mre_words.specs.declared.request.Request.{Request}
use Rattle.mre_words.specs.declared.request.Request.TheVariants.{Explain, Diff, Patch, PlanPatch}

-- the content at a place, counted from 0: the planner's domain and problem, the user's domain and
-- problem, the plan
abbrev pub text_at : List (List ℕ) → ℕ → List ℕ
text_at contents place = slice_index_or contents place []

-- the largest number of bytes of a file
abbrev pub file_limit : ℕ
file_limit = 4194304

-- each content is within the limit of a file
abbrev pub AreShort : List (List ℕ) → Type 0
AreShort contents = All (λ bytes. length bytes ≤ file_limit) contents

-- whether a request has a plan: each has one except the list of all differences
abbrev pub has_plan : Request → Bool
has_plan (Explain kind files) = true
has_plan (Diff files) = false
has_plan (Patch files) = true
has_plan (PlanPatch files) = true

-- the first four contents are texts of two domains, each with a problem, and these are their models
pub record AreModels (contents : List (List ℕ)) (planner user : Model) : Type 0 where
  pub planner_domain : Domain
  pub user_domain : Domain
  pub pd : IsDomainText (text_at contents 0) planner_domain
  pub pp : IsProblemText planner_domain (text_at contents 1) planner
  pub ud : IsDomainText (text_at contents 2) user_domain
  pub up : IsProblemText user_domain (text_at contents 3) user

-- the bytes are the text of a plan with these steps
abbrev pub IsTextOfPlan : Vocabulary → List ℕ → List GroundAction → Type 0
IsTextOfPlan words bytes steps =
    IsPlanText words bytes (let plan : Plan = record { steps = steps } in plan)

-- the plan of a request, in the planner's vocabulary; a request without a plan has the empty plan
abbrev pub IsPlanIn : Bool → List (List ℕ) → Model → List GroundAction → Type 0
IsPlanIn true contents planner steps = IsTextOfPlan planner.words (text_at contents 4) steps
IsPlanIn false contents planner steps = steps ≡ []

-- the texts of the models before this place are well-formed, and the one here has this first fault
pub data IsMisreadModel (contents : List (List ℕ)) (fault : TextFault) : ℕ → Type 0 where
  planner_domain : IsDomainFault (text_at contents 0) fault → IsMisreadModel contents fault 0
  planner_problem : (domain : Domain)
      → IsDomainText (text_at contents 0) domain
      → IsProblemFault domain (text_at contents 1) fault
      → IsMisreadModel contents fault 1
  user_domain : (domain : Domain) (planner : Model)
      → IsDomainText (text_at contents 0) domain
      → IsProblemText domain (text_at contents 1) planner
      → IsDomainFault (text_at contents 2) fault
      → IsMisreadModel contents fault 2
  user_problem : (domain other : Domain) (planner : Model)
      → IsDomainText (text_at contents 0) domain
      → IsProblemText domain (text_at contents 1) planner
      → IsDomainText (text_at contents 2) other
      → IsProblemFault other (text_at contents 3) fault
      → IsMisreadModel contents fault 3

-- the request has a plan, and this is the first fault of its text
pub record IsMisreadPlan (request : Request) (contents : List (List ℕ)) (planner : Model)
    (fault : TextFault) (file : ℕ) : Type 0 where
  pub asked : IsTrue (has_plan request)
  pub here : file ≡ 4
  pub fault_is : IsFirstFault planner.words (text_at contents 4) fault

-- the contents before this place are well-formed texts, and the one here has this first fault
pub data IsMisread (request : Request) (contents : List (List ℕ)) (fault : TextFault)
    (file : ℕ) : Type 0 where
  of_model : IsMisreadModel contents fault file → IsMisread request contents fault file
  of_plan : (planner user : Model)
      → AreModels contents planner user
      → IsMisreadPlan request contents planner fault file
      → IsMisread request contents fault file
