-- The bytes that are the text of a domain or of a problem, with its domain or model, and the first
-- fault of other bytes.
use Rattle.std.specs.Prelude.{ℕ, ◌<◌, ◌^◌, List, length}
use Rattle.pddl_text.specs.declared.fault.TextFault.{TextFault}
use Rattle.pddl_form.specs.declared.parts.Part.TheVariants as part
use Rattle.model_kit.specs.declared.model.Model.{Model}
use Rattle.model_kit.specs.declared.vocabulary.Vocabulary.{Vocabulary}
use Rattle.pddl_names.specs.declared.role.Word.{Word}
use Rattle.pddl_names.specs.Listings.{nothing}
use Rattle.pddl_names.specs.Texts.{IsSaid, IsUnsaid, declared_by}
use Rattle.pddl_models.specs.declared.domain.Domain.{Domain}
use Rattle.pddl_models.specs.Says.{SaysDomain, SaysModel}

-- the bytes are the text of the domain
pub record IsDomainText (bytes : List ℕ) (domain : Domain) : Type 0 where
  pub said : List Word
  pub text : IsSaid part.Domain nothing bytes said
  pub says : SaysDomain said domain

-- the bytes are the text of a problem of the domain, and the model is that of both
pub record IsProblemText (domain : Domain) (bytes : List ℕ) (model : Model) : Type 0 where
  pub said : List Word
  pub text : IsSaid part.Problem (declared_by domain.words) bytes said
  pub says : SaysModel domain said model

-- the first fault of a domain's text
abbrev pub IsDomainFault : List ℕ → TextFault → Type 0
IsDomainFault bytes fault = IsUnsaid part.Domain nothing bytes fault

-- the first fault of the text of a problem of the domain
abbrev pub IsProblemFault : Domain → List ℕ → TextFault → Type 0
IsProblemFault domain bytes fault = IsUnsaid part.Problem (declared_by domain.words) bytes fault

-- each list of the words is shorter than the bound
pub record AreFew (words : Vocabulary) (bound : ℕ) : Type 0 where
  pub types : length words.types < bound
  pub objects : length words.objects < bound
  pub predicates : length words.predicates < bound
  pub functions : length words.functions < bound
  pub actions : length words.actions < bound
