-- Contents are texts of at most one pair of models and one plan, and then none of the texts has a fault.
use Rattle.std.proofs.Common.{◌≡◌, ℕ, true, false, Bool, List, sym, ap, ◌∙◌, subst}
use Rattle.pddl_text.specs.declared.fault.TextFault.{TextFault}
use Rattle.pddl_text.proofs.ExactLemmas.{never_both, same_value}
use Rattle.pddl_names.specs.PlanNames.{IsPlanText, IsFirstFault as IsFirstFaultOf}
use Rattle.pddl_names.specs.Reading.{read_of}
use Rattle.pddl_names.proofs.PlanLemmas.{text_exact}
use Rattle.pddl_models.specs.declared.domain.Domain.{Domain}
use Rattle.pddl_read.specs.Texts.{IsProblemText, IsProblemFault}
use Rattle.pddl_read.proofs.DomainTexts as domains
use Rattle.pddl_read.proofs.ProblemTexts as problems
use Rattle.model_kit.specs.declared.action.GroundAction.{GroundAction}
use Rattle.model_kit.specs.declared.action.Plan.{Plan}
use Rattle.model_kit.specs.declared.model.Model.{Model}
use Rattle.mre_words.specs.declared.request.Request.{Request}
use Rattle.request_answers.specs.Texts.{text_at, has_plan, AreModels, IsPlanIn, IsMisread, IsMisreadModel, planner_domain, planner_problem, user_domain, user_problem, of_model, of_plan}

model_once : (domain other : Domain) (bytes : List ℕ) (a b : Model) → domain ≡ other → IsProblemText domain bytes a → IsProblemText other bytes b → a ≡ b
model_once domain other bytes a b same one two = problems.one_model domain bytes a b one (subst (λ d. IsProblemText d bytes b) (sym same) two)

no_fault : (domain other : Domain) (bytes : List ℕ) (model : Model) (fault : TextFault) → domain ≡ other → IsProblemText domain bytes model → IsProblemFault other bytes fault → ⊥
no_fault domain other bytes model fault same one two = problems.not_both domain bytes model fault one (subst (λ d. IsProblemFault d bytes fault) (sym same) two)

module _ (contents : List (List ℕ)) where
  -- there is one pair of models
  pub models_once : (p u q v : Model) → AreModels contents p u → AreModels contents q v → (p ≡ q) × (u ≡ v)
  models_once p u q v one two =
      let pd = domains.one_domain (text_at contents 0) one.planner_domain two.planner_domain one.pd two.pd in
      let ud = domains.one_domain (text_at contents 2) one.user_domain two.user_domain one.ud two.ud in (
        model_once one.planner_domain two.planner_domain (text_at contents 1) p q pd one.pp two.pp,
        model_once one.user_domain two.user_domain (text_at contents 3) u v ud one.up two.up,
      )

  -- texts of models have no fault
  pub never_misread : (p u : Model) (fault : TextFault) (file : ℕ) → AreModels contents p u → IsMisreadModel contents fault file → ⊥
  never_misread p u fault _ are (planner_domain is) = domains.not_both (text_at contents 0) are.planner_domain fault are.pd is
  never_misread p u fault _ are (planner_problem domain pd is) =
      no_fault are.planner_domain domain (text_at contents 1) p fault (domains.one_domain (text_at contents 0) are.planner_domain domain are.pd pd) are.pp is
  never_misread p u fault _ are (user_domain domain planner pd pp is) = domains.not_both (text_at contents 2) are.user_domain fault are.ud is
  never_misread p u fault _ are (user_problem domain other planner pd pp ud is) =
      no_fault are.user_domain other (text_at contents 3) u fault (domains.one_domain (text_at contents 2) are.user_domain other are.ud ud) are.up is

  -- there is one plan
  pub steps_once : (asked : Bool) (p q : Model) (a b : List GroundAction) → p ≡ q → IsPlanIn asked contents p a → IsPlanIn asked contents q b → a ≡ b
  steps_once true p q a b same one two =
      let F : List GroundAction → Plan = λ steps. record { steps = steps } in
      let other = subst (λ (m : Model). IsPlanText m.words (text_at contents 4) (F b)) (sym same) two in
      let plans = same_value (read_of p.words (text_at contents 4)) (IsPlanText p.words (text_at contents 4)) (IsFirstFaultOf p.words (text_at contents 4)) (text_exact p.words (text_at contents 4)) (F a) (F b) one other in
      ap (λ (plan : Plan). plan.steps) plans
  steps_once false p q a b same one two = one ∙ sym two

  no_plan_fault : (asked : Bool) (p q : Model) (steps : List GroundAction) (fault : TextFault) → p ≡ q → IsPlanIn asked contents p steps → asked ≡ true → IsFirstFaultOf q.words (text_at contents 4) fault → ⊥
  no_plan_fault true p q steps fault same one asks two =
      let plan : Plan = record { steps = steps } in
      let other = subst (λ (m : Model). IsFirstFaultOf m.words (text_at contents 4) fault) (sym same) two in
      never_both (read_of p.words (text_at contents 4)) (IsPlanText p.words (text_at contents 4)) (IsFirstFaultOf p.words (text_at contents 4)) (text_exact p.words (text_at contents 4)) plan fault one other
  no_plan_fault false p q steps fault same one asks two = absurd (cc)

  -- texts of models and a plan have no fault
  pub never_read : (request : Request) (p u : Model) (steps : List GroundAction) (fault : TextFault) (file : ℕ) → AreModels contents p u → IsPlanIn (has_plan request) contents p steps
      → IsMisread request contents fault file → ⊥
  never_read request p u steps fault file are planned (of_model is) = never_misread p u fault file are is
  never_read request p u steps fault file are planned (of_plan q v models is) =
      no_plan_fault (has_plan request) p q steps fault (models_once p u q v are models).0 planned is.asked is.fault_is
