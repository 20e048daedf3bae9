-- For each domain, each text has one model or one first fault, never both; so a right answer is the
-- only one.
use Rattle.std.proofs.Common.{◌≡◌, ℕ, List, Result, Ok, Err, sym, subst, inl, inr}
use Rattle.std.specs.Prelude.{◌⊎◌, IfOk}
use Rattle.pddl_text.specs.declared.fault.TextFault.{TextFault}
use Rattle.pddl_text.specs.declared.fault.ReadStop.{ReadStop}
use Rattle.pddl_text.specs.declared.fault.ReadStop.TheVariants as stop
use Rattle.pddl_text.specs.Answers.{IfFault, AnswersOk, AnswersFault}
use Rattle.pddl_text.specs.Forests.{tokens_of_all}
use Rattle.pddl_text.proofs.ExactLemmas.{IsExact, either, same_value, same_fault, never_both}
use Rattle.model_kit.specs.declared.model.Model.{Model}
use Rattle.pddl_form.specs.First.{problem}
use Rattle.pddl_form.specs.declared.parts.Part.TheVariants as part
use Rattle.pddl_names.specs.declared.role.Word.{Word}
use Rattle.pddl_names.specs.Texts.{IsSaid, IsUnsaid, said_of, declared_by}
use Rattle.pddl_names.proofs.TextLemmas.{said_exact}
use Rattle.pddl_vocabulary.specs.Formed.{AreFormed}
use Rattle.pddl_vocabulary.proofs.FormedLemmas.{are_formed}
use Rattle.pddl_vocabulary.proofs.SomeVocabulary.{some_more}
use Rattle.pddl_models.specs.declared.domain.Domain.{Domain}
use Rattle.pddl_models.specs.Saying.{AreNoTotals, AreOfProblem}
use Rattle.pddl_models.specs.Says.{SaysModel}
use Rattle.pddl_models.proofs.RoleLemmas.{are_no_totals, are_of_problem}
use Rattle.pddl_models.proofs.SomeModel.{some_model}
use Rattle.pddl_read.specs.Texts.{IsProblemText, IsProblemFault}
use Rattle.pddl_read.proofs.Once.{model_once}

module _ (domain : Domain) (bytes : List ℕ) where
  exact : IsExact (said_of part.Problem (declared_by domain.words) bytes) (IsSaid part.Problem (declared_by domain.words) bytes) (IsUnsaid part.Problem (declared_by domain.words) bytes)
  exact = said_exact part.Problem problem (declared_by domain.words) bytes

  -- a text of the grammar that breaks no rule of names says a model
  model_said : (said : List Word) → IsSaid part.Problem (declared_by domain.words) bytes said → (a : Model) × SaysModel domain said a
  model_said said is =
      let formed = subst AreFormed (sym is.words) (are_formed part.Problem bytes is.forest is.met is.spelled is.form) in
      let calls = subst AreNoTotals (sym is.words) (are_no_totals part.Problem (tokens_of_all is.forest.trees) is.met is.form) in
      let roles = subst AreOfProblem (sym is.words) (are_of_problem (tokens_of_all is.forest.trees) is.met is.form) in
      let words = some_more domain.words said formed in
      some_model domain said words.0 words.1 is.named calls roles

  either_of : ((said : List Word) × IsSaid part.Problem (declared_by domain.words) bytes said) ⊎ ((fault : TextFault) × IsUnsaid part.Problem (declared_by domain.words) bytes fault)
      → ((a : Model) × IsProblemText domain bytes a) ⊎ ((fault : TextFault) × IsProblemFault domain bytes fault)
  either_of (inl (said, is)) = let found = model_said said is in inl (found.0, record { said = said; text = is; says = found.1 })
  either_of (inr found) = inr found

  pub either_model : ((a : Model) × IsProblemText domain bytes a) ⊎ ((fault : TextFault) × IsProblemFault domain bytes fault)
  either_model = either_of (either (said_of part.Problem (declared_by domain.words) bytes) (IsSaid part.Problem (declared_by domain.words) bytes) (IsUnsaid part.Problem (declared_by domain.words) bytes) exact)

  pub one_model : (a b : Model) → IsProblemText domain bytes a → IsProblemText domain bytes b → a ≡ b
  one_model a b one two =
      let same = same_value (said_of part.Problem (declared_by domain.words) bytes) (IsSaid part.Problem (declared_by domain.words) bytes) (IsUnsaid part.Problem (declared_by domain.words) bytes) exact two.said one.said two.text one.text in
      model_once domain one.said a b one.says (subst (λ said. SaysModel domain said b) same two.says)

  pub one_fault : (a b : TextFault) → IsProblemFault domain bytes a → IsProblemFault domain bytes b → a ≡ b
  one_fault = same_fault (said_of part.Problem (declared_by domain.words) bytes) (IsSaid part.Problem (declared_by domain.words) bytes) (IsUnsaid part.Problem (declared_by domain.words) bytes) exact

  pub not_both : (a : Model) (fault : TextFault) → IsProblemText domain bytes a → IsProblemFault domain bytes fault → ⊥
  not_both a fault is = never_both (said_of part.Problem (declared_by domain.words) bytes) (IsSaid part.Problem (declared_by domain.words) bytes) (IsUnsaid part.Problem (declared_by domain.words) bytes) exact is.said fault is.text

  pub answered : (result : Result Model ReadStop) → IfOk result (IsProblemText domain bytes) → IfFault result (IsProblemFault domain bytes) → (a : Model) → IsProblemText domain bytes a → AnswersOk result a
  answered (Ok found) ok fault a is = one_model found a ok is
  answered (Err (stop.Fault found)) ok fault a is = not_both a found is fault
  answered (Err stop.NoMemory) ok fault a is = tt

  pub refused : (result : Result Model ReadStop) → IfOk result (IsProblemText domain bytes) → IfFault result (IsProblemFault domain bytes) → (f : TextFault) → IsProblemFault domain bytes f → AnswersFault result f
  refused (Ok found) ok fault f is = not_both found f ok is
  refused (Err (stop.Fault found)) ok fault f is = one_fault found f fault is
  refused (Err stop.NoMemory) ok fault f is = tt
