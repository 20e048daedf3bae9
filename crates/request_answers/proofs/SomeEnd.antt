-- Each list of contents has an answer, or a stop that is due.
use Rattle.std.proofs.Common.{◌≡◌, ℕ, ◌+◌, ◌<◌, ◌≤◌, ◌^◌, Bool, true, false, zero, suc, List, [], ◌∷◌, length, map, Some, refl, sym, ap, ◌∙◌, arith, ⊎_elim, inl, inr}
use Rattle.std.specs.Prelude.{◌⊎◌, ◌≢◌, All, IsTrue, replicate, slice_get}
use Rattle.std.specs.Ordering.{nat_cmp}
use Rattle.std.specs.FinSet as set
use Rattle.std.proofs.lemmas.Bool.{cases_lt}
use Rattle.std.proofs.lemmas.List.{length-map, length-replicate}
use Rattle.std.proofs.lemmas.List.Elements.{All-nil, All-cons}
use Rattle.mre_base.specs.Sets.{set_below}
use Rattle.mre_base.specs.declared.kind.Kind.{Kind}
use Rattle.mre_base.specs.declared.kind.Kind.TheVariants.{Mce, Mme}
use Rattle.pddl_text.specs.declared.fault.TextFault.{TextFault}
use Rattle.pddl_text.proofs.ExactLemmas.{either}
use Rattle.pddl_names.specs.PlanNames.{IsPlanText, IsFirstFault}
use Rattle.pddl_names.specs.Reading.{read_of}
use Rattle.pddl_names.proofs.PlanLemmas.{text_exact, text_fits}
use Rattle.pddl_models.specs.declared.domain.Domain.{Domain}
use Rattle.pddl_read.specs.Texts.{IsDomainText, IsProblemText}
use Rattle.pddl_read.proofs.DomainTexts.{either_domain}
use Rattle.pddl_read.proofs.ProblemTexts.{either_model}
use Rattle.model_kit.specs.declared.vocabulary.Signature.{Signature}
use Rattle.model_kit.specs.declared.action.GroundAction.{GroundAction}
use Rattle.model_kit.specs.declared.action.Plan.{Plan}
use Rattle.model_kit.specs.declared.model.Model.{Model}
use Rattle.model_kit.specs.Vocabulary.{IsGroundAction}
use Rattle.model_kit.specs.Printed.{atom_form, action_form}
use Rattle.model_kit.specs.Places.{meaning}
use Rattle.model_kit.specs.Runs.{IsValid, IsCheapest, cost}
use Rattle.model_kit.specs.Pairs.{ArePaired}
use Rattle.model_kit.specs.Explanations.{IsPosed}
use Rattle.model_kit.specs.Sentences.{explanation}
use Rattle.model_kit.proofs.FiniteLemmas.{cheaper_or_none}
use Rattle.model_kit.proofs.LawLemmas.{mce_law, mme_law}
use Rattle.model_kit.proofs.PairLemmas.{plan_ground}
use Rattle.joint_models.proofs.Alikeness.{told_disagree}
use Rattle.joint_models.proofs.FirstDisagreement.{agree_or_not}
use Rattle.joint_models.proofs.SomePair.{some_pair}
use Rattle.feature_diff.specs.declared.difference.Difference.{Difference}
use Rattle.feature_diff.specs.Differing.{place_of, places_of, AreDifferencesOf}
use Rattle.ground_core.specs.Grounds.{IsFull}
use Rattle.ground_core.proofs.FullLemmas.{full_law}
use Rattle.request_answers.specs.Tasks.{even_task}
use Rattle.plan_uses.specs.Uses.{is_used_at}
use Rattle.plan_uses.proofs.UsedLemmas.{are_used}
use Rattle.explain_text.specs.Lines.{kind_name}
use Rattle.cube_kit.specs.Cubes.{all_to}
use Rattle.mre_words.specs.declared.request.Request.{Request}
use Rattle.mre_words.specs.declared.request.Request.TheVariants.{Explain, Diff, Patch, PlanPatch}
use Rattle.request_answers.specs.declared.stop.AnswerStop.{AnswerStop}
use Rattle.request_answers.specs.declared.stop.AnswerStop.TheVariants.{Misread, Disagree, TooManyParameters, TooManyObjects, TooManyDifferences, TooManySteps, TooManyActions, TooManyAtoms, NotValid, Unbuilt, NotCheapest, NoMemory}
use Rattle.request_answers.specs.declared.stop.PlanFault.{PlanFault}
use Rattle.request_answers.specs.declared.stop.PlanFault.TheVariants.{StepNeeds, StepHasNoCost, EndsWithout}
use Rattle.request_answers.specs.Texts.{text_at, has_plan, AreModels, IsPlanIn, IsMisreadModel, planner_domain, planner_problem, user_domain, user_problem, of_model, of_plan}
use Rattle.request_answers.specs.Counts.{most_of, most_parameters, AreSmall}
use Rattle.request_answers.specs.Questions.{Pose, AreCounted, IsFault, FitsTable}
use Rattle.request_answers.specs.Outputs.{IsOfKind, IsAnswer, listing}
use Rattle.request_answers.specs.Causes.{IsDue}
use Rattle.request_answers.specs.Ends.{EndsAt}
use Rattle.request_answers.specs.Lines.{status_of}
use Rattle.request_answers.proofs.Ending.{due_ends, answer_ends}
use Rattle.request_answers.proofs.Differing.{all_differences}
use Rattle.request_answers.proofs.Judged.{finite_model, IsWrong, fails, unpriced, missing, valid_or_wrong}

-- no action has more parameters than the most
most_at : (signatures : List Signature) (n : ℕ) (signature : Signature) → slice_get signatures n ≡ Some signature → length signature.params ≤ most_of signatures
most_at [] n signature at = absurd (cc)
most_at (s ∷ signatures) zero signature at = let same : s ≡ signature = cc in let here : length s.params ≡ length signature.params = ap (λ (t : Signature). length t.params) same in omega arith
most_at (s ∷ signatures) (suc n) signature at = let rest = most_at signatures n signature at in omega arith

-- each difference weighs 1
even_posed : (planner user : Model) (differences : List Difference) (plan : List GroundAction) → AreDifferencesOf planner user differences → IsPosed (even_task planner user differences plan)
even_posed planner user differences plan all = record {
  differences = all.all;
  weights = record { one_each = length-replicate (length differences) 1 ∙ sym (length-map differences place_of); sized = each (length differences) };
}
  where
    each : (n : ℕ) → All (λ w. (1 ≤ w) × (w ≤ 1000000)) (replicate n 1)
    each zero = All-nil (λ w. (1 ≤ w) × (w ≤ 1000000))
    each (suc n) = All-cons (λ w. (1 ≤ w) × (w ≤ 1000000)) 1 (replicate n 1) (omega arith, omega arith) (each n)

-- among the valid plans below a cost one is cheapest, if there is one
abbrev CheaperThan : Model → ℕ → Type 0
CheaperThan planner k = (other : List GroundAction) × All (IsGroundAction planner.words) other × IsValid (meaning planner) other × (cost (meaning planner) other < k)

abbrev CheapestThan : Model → ℕ → Type 0
CheapestThan planner k = (other : List GroundAction) × All (IsGroundAction planner.words) other × IsCheapest planner.words (meaning planner) other × (cost (meaning planner) other < k)

cheapest_below : (planner : Model) (n k : ℕ) → k ≤ n → CheaperThan planner k → CheapestThan planner k
cheapest_below planner zero k few found = absurd (omega (arith, found.3))
cheapest_below planner (suc n) k few found =
    let m = meaning planner in
    let price = cost m found.0 in
    ⊎_elim
    (λ (cheaper : CheaperThan planner price).
    let best : CheapestThan planner price = cheapest_below planner n price (omega (arith, found.3)) cheaper in (best.0, best.1, best.2, omega (arith, best.3, found.3)))
    (λ none. (found.0, found.1, record { valid = found.2; least = none }, found.3))
    (cheaper_or_none planner.words m (finite_model planner) price)

module _ (request : Request) (contents : List (List ℕ)) where
  abbrev pub Answered : Type 0
  Answered = (told : set.FinSet nat_cmp) × (text : List ℕ) × IsAnswer request contents told text

  abbrev pub Stopped : Type 0
  Stopped = (stop : AnswerStop) × (stop ≢ NoMemory) × IsDue request contents stop

  -- ---- the texts

  abbrev Models : Type 0
  Models = ((planner : Model) × (user : Model) × AreModels contents planner user) ⊎ ((fault : TextFault) × (file : ℕ) × IsMisreadModel contents fault file)

  with_user_domain : (domain other : Domain) (planner : Model) → IsDomainText (text_at contents 0) domain → IsProblemText domain (text_at contents 1) planner → IsDomainText (text_at contents 2) other → Models
  with_user_domain domain other planner pd pp ud =
      ⊎_elim
      (λ found. inl (planner, found.0, record { planner_domain = domain; user_domain = other; pd = pd; pp = pp; ud = ud; up = found.1 }))
      (λ broken. inr (broken.0, 3, user_problem domain other planner pd pp ud broken.1))
      (either_model other (text_at contents 3))

  with_planner : (domain : Domain) (planner : Model) → IsDomainText (text_at contents 0) domain → IsProblemText domain (text_at contents 1) planner → Models
  with_planner domain planner pd pp =
      ⊎_elim
      (λ found. with_user_domain domain found.0 planner pd pp found.1)
      (λ broken. inr (broken.0, 2, user_domain domain planner pd pp broken.1))
      (either_domain (text_at contents 2))

  with_domain : (domain : Domain) → IsDomainText (text_at contents 0) domain → Models
  with_domain domain pd =
      ⊎_elim
      (λ found. with_planner domain found.0 pd found.1)
      (λ broken. inr (broken.0, 1, planner_problem domain pd broken.1))
      (either_model domain (text_at contents 1))

  models_or_fault : Models
  models_or_fault =
      ⊎_elim
      (λ found. with_domain found.0 found.1)
      (λ broken. inr (broken.0, 0, planner_domain broken.1))
      (either_domain (text_at contents 0))

  abbrev Planned : Bool → Model → Type 0
  Planned asked planner =
      ((plan : List GroundAction) × IsPlanIn asked contents planner plan × All (IsGroundAction planner.words) plan)
      ⊎ ((fault : TextFault) × (asked ≡ true) × IsFirstFault planner.words (text_at contents 4) fault)

  plan_or_fault : (asked : Bool) (planner : Model) → Planned asked planner
  plan_or_fault true planner =
      let words = planner.words in
      let bytes = text_at contents 4 in
      ⊎_elim
      (λ (found : (plan : Plan) × IsPlanText words bytes plan). inl (found.0.steps, found.1, text_fits words bytes found.0 found.1))
      (λ (broken : (fault : TextFault) × IsFirstFault words bytes fault). inr (broken.0, refl, broken.1))
      (either (read_of words bytes) (IsPlanText words bytes) (IsFirstFault words bytes) (text_exact words bytes))
  plan_or_fault false planner = inl ([], refl, All-nil (IsGroundAction planner.words))

  -- ---- a question

  module _ (planner user : Model) (plan : List GroundAction) (pose : Pose request contents planner user plan) (fits : All (IsGroundAction planner.words) plan) where
    -- a count is past its limit, or the counts are within their limits
    abbrev Counted : Type 0
    Counted = Stopped ⊎ ((differences : List Difference) × AreCounted request contents planner user plan differences)

    with_differences : AreSmall planner.words → (differences : List Difference) → AreDifferencesOf planner user differences → Counted
    with_differences small differences all =
        ⊎_elim
        (λ many. inl (
          TooManyDifferences (length differences),
          (λ same. cc),
          record {
            planner = planner;
            user = user;
            plan = plan;
            pose = pose;
            past = record { small = small; many = record { places = places_of differences; all = all.all; counted = length-map differences place_of; many = many } };
          },
        ))
        (λ few. ⊎_elim
        (λ many. inl (
          TooManySteps (length plan),
          (λ same. cc),
          record { planner = planner; user = user; plan = plan; pose = pose; past = record { small = small; differences = differences; all = all; few = few; counted = refl; many = many } },
        ))
        (λ short. inr (differences, record { pose = pose; limits = record { small = small; all = all; few = few; short = short } }))
        (cases_lt 10000 (length plan)))
        (cases_lt 256 (length differences))

    counted_or_past : Counted
    counted_or_past =
        ⊎_elim
        (λ many. inl (
          TooManyParameters (most_parameters planner.words),
          (λ same. cc),
          record { planner = planner; user = user; plan = plan; pose = pose; past = record { counted = refl; many = many } },
        ))
        (λ parameters. ⊎_elim
        (λ many. inl (
          TooManyObjects (length planner.words.objects),
          (λ same. cc),
          record { planner = planner; user = user; plan = plan; pose = pose; past = record { parameters = parameters; counted = refl; many = many } },
        ))
        (λ objects.
        let few : (i : ℕ) (action : Signature) → slice_get planner.words.actions i ≡ Some action → length action.params < 2 ^ 64 = λ i action at. let most = most_at planner.words.actions i action at in omega arith in
        let all = all_differences planner user pose.paired.user_in.words_are few in
        with_differences (record { parameters = parameters; objects = objects }) all.0 all.1)
        (cases_lt 1000 (length planner.words.objects)))
        (cases_lt 8 (most_parameters planner.words))

    -- the plan is valid, or has a fault
    valid_or_fault : IsValid (meaning planner) plan ⊎ ((fault : PlanFault) × IsFault planner.words (meaning planner) plan fault)
    valid_or_fault = ⊎_elim (λ valid. inl valid) (λ wrong. inr (fault_of wrong)) (valid_or_wrong planner plan fits)
      where
        fault_of : IsWrong planner plan → (fault : PlanFault) × IsFault planner.words (meaning planner) plan fault
        fault_of (fails step atom is) = (StepNeeds step (atom_form planner.words atom), (atom, is, refl))
        fault_of (unpriced step is) = (StepHasNoCost step, is)
        fault_of (missing atom is) = (EndsWithout (atom_form planner.words atom), (atom, is, refl))

    module _ (differences : List Difference) (counted : AreCounted request contents planner user plan differences) where
      faulty : IsTrue (has_plan request) → FitsTable request planner user differences → (fault : PlanFault) → IsFault planner.words (meaning planner) plan fault → Stopped
      faulty asked table fault is = (
        NotValid fault,
        (λ same. cc),
        record { planner = planner; user = user; plan = plan; differences = differences; counted = counted; planned = asked; table = table; is = is },
      )

      -- more is reachable than a table may list, or it isn't
      full_or_not : IsFull planner user differences ⊎ ¬ IsFull planner user differences
      full_or_not = full_law planner user differences counted.limits.all pose.paired.user_in.words_are

      -- the first set of a kind
      first_of_kind : (kind : Kind) → IsCheapest planner.words (meaning planner) plan → (told : set.FinSet nat_cmp) × IsOfKind kind (even_task planner user differences plan) told
      first_of_kind Mce cheapest =
          (mce_law planner.words planner user (places_of differences) (replicate (length differences) 1) plan (even_posed planner user differences plan counted.limits.all) fits).exists cheapest
      first_of_kind Mme cheapest =
          (mme_law planner.words planner user (places_of differences) (replicate (length differences) 1) plan (even_posed planner user differences plan counted.limits.all) fits).exists cheapest

      -- the plan is cheapest, or there is a cheapest plan that costs less
      cheapest_or_not : IsValid (meaning planner) plan
          → IsCheapest planner.words (meaning planner) plan
          ⊎ ((other : List GroundAction) × All (IsGroundAction planner.words) other × IsCheapest planner.words (meaning planner) other × (cost (meaning planner) other < cost (meaning planner) plan))
      cheapest_or_not valid =
          ⊎_elim (λ cheaper. inr (cheapest_below planner (cost (meaning planner) plan) (cost (meaning planner) plan) (omega arith) cheaper)) (λ none. inl (record { valid = valid; least = none }))
          (cheaper_or_none planner.words (meaning planner) (finite_model planner) (cost (meaning planner) plan))

-- ---- each request

module _ (contents : List (List ℕ)) (planner user : Model) (plan : List GroundAction) (fits : All (IsGroundAction planner.words) plan) (differences : List Difference) where
  made : (request : Request) (pose : Pose request contents planner user plan) → AreCounted request contents planner user plan differences → Answered request contents ⊎ Stopped request contents
  made (Diff files) pose counted =
      let request : Request = Diff files in
      inl (
        all_to (length differences),
        listing request (even_task planner user differences plan) (all_to (length differences)),
        record { planner = planner; user = user; plan = plan; differences = differences; counted = counted; choice = refl; text_is = refl },
      )
  made (Patch files) pose counted =
      let request : Request = Patch files in
      ⊎_elim
      (λ valid. inl (
        all_to (length differences),
        listing request (even_task planner user differences plan) (all_to (length differences)),
        record { planner = planner; user = user; plan = plan; differences = differences; counted = counted; choice = (valid, refl); text_is = refl },
      ))
      (λ wrong. inr (faulty request contents planner user plan pose fits differences counted refl tt wrong.0 wrong.1))
      (valid_or_fault request contents planner user plan pose fits)
  made (PlanPatch files) pose counted =
      let request : Request = PlanPatch files in
      let places = places_of differences in
      let used = set_below (is_used_at plan places) (length places + 1) in
      ⊎_elim
      (λ valid. inl (
        used,
        listing request (even_task planner user differences plan) used,
        record { planner = planner; user = user; plan = plan; differences = differences; counted = counted; choice = (valid, are_used plan places (length places) used refl refl); text_is = refl },
      ))
      (λ wrong. inr (faulty request contents planner user plan pose fits differences counted refl tt wrong.0 wrong.1))
      (valid_or_fault request contents planner user plan pose fits)
  made (Explain kind files) pose counted =
      ⊎_elim
      (λ full. inr (full_stop full))
      (λ table. ⊎_elim
      (λ valid. ⊎_elim
      (λ cheapest. ⊎_elim
      (λ many. inr (
        Unbuilt,
        (λ same. cc),
        record { planner = planner; user = user; plan = plan; differences = differences; counted = counted; asked = tt; table = table; cheapest = cheapest; many = many },
      ))
      (λ few. explained table few cheapest (first_of_kind request contents planner user plan pose fits differences counted kind cheapest))
      (cases_lt 16 (length differences)))
      (λ cheaper. inr (
        NotCheapest (cost (meaning planner) plan) (cost (meaning planner) cheaper.0) (map (action_form planner.words) cheaper.0),
        (λ same. cc),
        record {
          planner = planner;
          user = user;
          plan = plan;
          differences = differences;
          counted = counted;
          asked = tt;
          table = table;
          undercut = record { valid = valid; costs_are = refl; list = cheaper.0; printed = refl; fits = cheaper.1; cheapest = cheaper.2; other_is = refl; less = cheaper.3 };
        },
      ))
      (cheapest_or_not request contents planner user plan pose fits differences counted valid))
      (λ wrong. inr (faulty request contents planner user plan pose fits differences counted refl table wrong.0 wrong.1))
      (valid_or_fault request contents planner user plan pose fits))
      (full_or_not request contents planner user plan pose fits differences counted)
    where
      request : Request
      request = Explain kind files

      full_stop : IsFull planner user differences → Stopped (Explain kind files) contents
      full_stop (inl atoms) = (
        TooManyAtoms,
        (λ same. cc),
        record { planner = planner; user = user; plan = plan; differences = differences; counted = counted; asked = tt; many = atoms },
      )
      full_stop (inr actions) = (
        TooManyActions,
        (λ same. cc),
        record { planner = planner; user = user; plan = plan; differences = differences; counted = counted; asked = tt; many = actions },
      )

      explained : ¬ IsFull planner user differences → length differences ≤ 16 → IsCheapest planner.words (meaning planner) plan
          → ((told : set.FinSet nat_cmp) × IsOfKind kind (even_task planner user differences plan) told) → Answered (Explain kind files) contents ⊎ Stopped (Explain kind files) contents
      explained table few cheapest first = inl (
        first.0,
        explanation (kind_name kind) (even_task planner user differences plan) first.0,
        (
          even_task planner user differences plan,
          record {
            planner = planner;
            user = user;
            plan = plan;
            differences = differences;
            counted = counted;
            table = table;
            few = few;
            cheapest = cheapest;
            task_is = refl;
            first = first.1;
          },
          refl,
        ),
      )

module _ (request : Request) (contents : List (List ℕ)) where
  posed : (planner user : Model) (plan : List GroundAction) → Pose request contents planner user plan → All (IsGroundAction planner.words) plan → Answered request contents ⊎ Stopped request contents
  posed planner user plan pose fits =
      ⊎_elim
      (λ past. inr past)
      (λ counted. made contents planner user plan fits counted.0 request pose counted.1)
      (counted_or_past request contents planner user plan pose fits)

  -- two models and a plan
  read : (planner user : Model) (plan : List GroundAction) → AreModels contents planner user → IsPlanIn (has_plan request) contents planner plan → All (IsGroundAction planner.words) plan
      → Answered request contents ⊎ Stopped request contents
  read planner user plan models planned fits =
      ⊎_elim
      (λ agree.
      let pair = some_pair planner user models.pp.says.unknown models.up.says.unknown agree in
      let paired : ArePaired planner user pair.0.words pair.0 pair.1 = pair.2 in
      posed pair.0 pair.1 plan (record { planner_read = planner; user_read = user; models = models; planned = planned; paired = paired })
      (plan_ground planner.words user.words pair.0.words paired.joint plan fits))
      (λ fault. inr (
        Disagree fault.0,
        (λ same. cc),
        record {
          planner_read = planner;
          user_read = user;
          plan = plan;
          models = models;
          planned = planned;
          apart = told_disagree planner.words user.words fault.0 fault.1;
          first = fault.1;
        },
      ))
      (agree_or_not planner.words user.words)

  pub answered_or_stopped : Answered request contents ⊎ Stopped request contents
  answered_or_stopped =
      ⊎_elim
      (λ models. ⊎_elim
      (λ planned. read models.0 models.1 planned.0 models.2 planned.1 planned.2)
      (λ broken. inr (
        Misread 4 broken.0,
        (λ same. cc),
        of_plan models.0 models.1 models.2 (record { asked = broken.1; here = refl; fault_is = broken.2 }),
      ))
      (plan_or_fault request contents (has_plan request) models.0))
      (λ broken. inr (Misread broken.1 broken.0, (λ same. cc), of_model broken.2))
      (models_or_fault request contents)

  -- so the contents end with some status
  pub some_end : (status : ℕ) × EndsAt request contents status
  some_end =
      ⊎_elim
      (λ (answer : Answered request contents). (0, answer_ends request contents answer.0 answer.1 answer.2))
      (λ (stop : Stopped request contents). (status_of stop.0, due_ends request contents stop.0 stop.1 stop.2))
      answered_or_stopped
