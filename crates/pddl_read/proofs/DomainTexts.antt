-- Each text has one domain or one first fault, never both; so a right answer is the only one.
use Rattle.std.proofs.Common.{◌≡◌, ℕ, List, Result, Ok, Err, sym, subst, inl, inr}
use Rattle.std.specs.Prelude.{◌⊎◌, IfOk}
use Rattle.pddl_text.specs.declared.fault.TextFault.{TextFault}
use Rattle.pddl_text.specs.declared.fault.ReadStop.{ReadStop}
use Rattle.pddl_text.specs.declared.fault.ReadStop.TheVariants as stop
use Rattle.pddl_text.specs.Answers.{IfFault, AnswersOk, AnswersFault}
use Rattle.pddl_text.specs.Forests.{tokens_of_all}
use Rattle.pddl_text.proofs.ExactLemmas.{IsExact, either, same_value, same_fault, never_both}
use Rattle.pddl_form.specs.First.{domain}
use Rattle.pddl_form.specs.declared.parts.Part.TheVariants as part
use Rattle.pddl_names.specs.declared.role.Word.{Word}
use Rattle.pddl_names.specs.Listings.{nothing}
use Rattle.pddl_names.specs.Texts.{IsSaid, IsUnsaid, said_of}
use Rattle.pddl_names.proofs.TextLemmas.{said_exact}
use Rattle.pddl_vocabulary.specs.Formed.{AreFormed}
use Rattle.pddl_vocabulary.proofs.FormedLemmas.{are_formed}
use Rattle.pddl_vocabulary.proofs.SomeVocabulary.{some_words}
use Rattle.pddl_models.specs.declared.domain.Domain.{Domain}
use Rattle.pddl_models.specs.Saying.{AreNoTotals}
use Rattle.pddl_models.specs.Says.{SaysDomain}
use Rattle.pddl_models.proofs.RoleLemmas.{are_no_totals}
use Rattle.pddl_models.proofs.SomeModel.{some_domain}
use Rattle.pddl_read.specs.Texts.{IsDomainText, IsDomainFault}
use Rattle.pddl_read.proofs.Once.{domain_once}

module _ (bytes : List ℕ) where
  exact : IsExact (said_of part.Domain nothing bytes) (IsSaid part.Domain nothing bytes) (IsUnsaid part.Domain nothing bytes)
  exact = said_exact part.Domain domain nothing bytes

  -- a text of the grammar that breaks no rule of names says a domain
  domain_said : (said : List Word) → IsSaid part.Domain nothing bytes said → (a : Domain) × SaysDomain said a
  domain_said said is =
      let formed = subst AreFormed (sym is.words) (are_formed part.Domain bytes is.forest is.met is.spelled is.form) in
      let calls = subst AreNoTotals (sym is.words) (are_no_totals part.Domain (tokens_of_all is.forest.trees) is.met is.form) in
      let words = some_words said formed is.named in
      some_domain said words.0 words.1 is.named calls

  either_of : ((said : List Word) × IsSaid part.Domain nothing bytes said) ⊎ ((fault : TextFault) × IsUnsaid part.Domain nothing bytes fault)
      → ((a : Domain) × IsDomainText bytes a) ⊎ ((fault : TextFault) × IsDomainFault bytes fault)
  either_of (inl (said, is)) = let found = domain_said said is in inl (found.0, record { said = said; text = is; says = found.1 })
  either_of (inr found) = inr found

  pub either_domain : ((a : Domain) × IsDomainText bytes a) ⊎ ((fault : TextFault) × IsDomainFault bytes fault)
  either_domain = either_of (either (said_of part.Domain nothing bytes) (IsSaid part.Domain nothing bytes) (IsUnsaid part.Domain nothing bytes) exact)

  pub one_domain : (a b : Domain) → IsDomainText bytes a → IsDomainText bytes b → a ≡ b
  one_domain a b one two =
      let same = same_value (said_of part.Domain nothing bytes) (IsSaid part.Domain nothing bytes) (IsUnsaid part.Domain nothing bytes) exact two.said one.said two.text one.text in
      domain_once one.said a b one.says (subst (λ said. SaysDomain said b) same two.says)

  pub one_fault : (a b : TextFault) → IsDomainFault bytes a → IsDomainFault bytes b → a ≡ b
  one_fault = same_fault (said_of part.Domain nothing bytes) (IsSaid part.Domain nothing bytes) (IsUnsaid part.Domain nothing bytes) exact

  pub not_both : (a : Domain) (fault : TextFault) → IsDomainText bytes a → IsDomainFault bytes fault → ⊥
  not_both a fault is = never_both (said_of part.Domain nothing bytes) (IsSaid part.Domain nothing bytes) (IsUnsaid part.Domain nothing bytes) exact is.said fault is.text

  pub answered : (result : Result Domain ReadStop) → IfOk result (IsDomainText bytes) → IfFault result (IsDomainFault bytes) → (a : Domain) → IsDomainText bytes a → AnswersOk result a
  answered (Ok found) ok fault a is = one_domain found a ok is
  answered (Err (stop.Fault found)) ok fault a is = not_both a found is fault
  answered (Err stop.NoMemory) ok fault a is = tt

  pub refused : (result : Result Domain ReadStop) → IfOk result (IsDomainText bytes) → IfFault result (IsDomainFault bytes) → (f : TextFault) → IsDomainFault bytes f → AnswersFault result f
  refused (Ok found) ok fault f is = not_both found f ok is
  refused (Err (stop.Fault found)) ok fault f is = one_fault found f fault is
  refused (Err stop.NoMemory) ok fault f is = tt
