-- The contents of a request's files end with one status.
use Rattle.std.proofs.Common.{◌≡◌, ◌⊎◌, ℕ, ◌≤◌, List, length, refl, sym, ap, ◌∙◌, subst, inl, inr, arith}
use Rattle.std.proofs.lemmas.List.{length-map}
use Rattle.model_kit.specs.declared.vocabulary.Vocabulary.{Vocabulary}
use Rattle.model_kit.specs.declared.model.Model.{Model}
use Rattle.model_kit.specs.declared.action.GroundAction.{GroundAction}
use Rattle.model_kit.specs.declared.judging.NamedJudgement.TheVariants.{Valid, Fails, NoCost, GoalMissing}
use Rattle.model_kit.specs.Places.{Place, Meaning, meaning}
use Rattle.model_kit.specs.Pairs.{Agree}
use Rattle.model_kit.specs.Runs.{IsValid, cost}
use Rattle.model_kit.proofs.JudgeLemmas.{judgement_once}
use Rattle.feature_diff.specs.declared.difference.Difference.{Difference}
use Rattle.feature_diff.specs.Differing.{place_of, places_of}
use Rattle.ground_core.proofs.GroundLemmas.{full_alike}
use Rattle.mre_words.specs.declared.request.Request.{Request}
use Rattle.mre_words.specs.declared.request.Request.TheVariants.{Explain, Diff, Patch, PlanPatch}
use Rattle.request_answers.specs.declared.stop.PlanFault.{PlanFault}
use Rattle.request_answers.specs.declared.stop.PlanFault.TheVariants.{StepNeeds, StepHasNoCost, EndsWithout}
use Rattle.request_answers.specs.Texts.{has_plan}
use Rattle.request_answers.specs.Questions.{IsFault, AreMany}
use Rattle.request_answers.specs.Ends.{AtPlan, AtSearch, AtTable, AtQuestion, IsPast, IsLarge, AreFew, AreDiffering, AreJoined, AreRead, EndsAt, misread, read}
use Rattle.request_answers.specs.Counts.{AreSmall}
use Rattle.model_kit.proofs.OneDifferences.{same_differences}
use Rattle.model_kit.proofs.SameParts.{paired_once}
use Rattle.request_answers.proofs.Once.{models_once, steps_once, never_read}

-- a valid plan has no fault
not_both : (words : Vocabulary) (model : Meaning) (plan : List GroundAction) (fault : PlanFault) → IsValid model plan → IsFault words model plan fault → ⊥
not_both words model plan (StepNeeds step text) valid is =
    let one : Valid (cost model plan) ≡ Fails step is.0 = judgement_once words model plan (Valid (cost model plan)) (Fails step is.0) (valid, refl) is.1 in cc
not_both words model plan (StepHasNoCost step) valid is =
    let one : Valid (cost model plan) ≡ NoCost step = judgement_once words model plan (Valid (cost model plan)) (NoCost step) (valid, refl) is in cc
not_both words model plan (EndsWithout text) valid is =
    let one : Valid (cost model plan) ≡ GoalMissing is.0 = judgement_once words model plan (Valid (cost model plan)) (GoalMissing is.0) (valid, refl) is.1 in cc

plan_end_once : (planner : Model) (plan : List GroundAction) (k m : ℕ) (One Two : Type 0) → (One → Two → k ≡ m) → AtPlan planner plan k One → AtPlan planner plan m Two → k ≡ m
plan_end_once planner plan k m One Two rest (inl one) (inl two) = one.0 ∙ sym two.0
plan_end_once planner plan k m One Two rest (inl one) (inr two) = absurd (not_both planner.words (meaning planner) plan one.1 two.0 one.2)
plan_end_once planner plan k m One Two rest (inr one) (inl two) = absurd (not_both planner.words (meaning planner) plan two.1 one.0 two.2)
plan_end_once planner plan k m One Two rest (inr one) (inr two) = rest one.1 two.1

search_end_once : (planner : Model) (plan : List GroundAction) (differences : List Difference) (k m : ℕ) → AtSearch planner plan differences k → AtSearch planner plan differences m → k ≡ m
search_end_once planner plan differences k m (inl under) (inl too) = under.0 ∙ sym too.0
search_end_once planner plan differences k m (inl under) (inr rest) =
    let least = rest.0.least under.4.list under.4.fits under.4.cheapest.valid in absurd (omega (arith, least, under.4.less, under.4.costs_are, under.4.other_is))
search_end_once planner plan differences k m (inr rest) (inl under) =
    let least = rest.0.least under.4.list under.4.fits under.4.cheapest.valid in absurd (omega (arith, least, under.4.less, under.4.costs_are, under.4.other_is))
search_end_once planner plan differences k m (inr one) (inr two) = last_once one.1 two.1
  where
    Last : ℕ → Type 0
    Last status = ((status ≡ 5) × AreMany differences) ⊎ ((status ≡ 0) × (length differences ≤ 16))

    last_once : Last k → Last m → k ≡ m
    last_once (inl many) (inl too) = many.0 ∙ sym too.0
    last_once (inl many) (inr few) = absurd (omega (arith, many.1, few.1))
    last_once (inr few) (inl many) = absurd (omega (arith, many.1, few.1))
    last_once (inr few) (inr too) = few.0 ∙ sym too.0

table_end_once : (planner user : Model) (one two : List Difference) (k m : ℕ) (One Two : Type 0) → places_of one ≡ places_of two → (One → Two → k ≡ m)
    → AtTable planner user one k One → AtTable planner user two m Two → k ≡ m
table_end_once planner user one two k m One Two same rest (inl a) (inl b) = a.0 ∙ sym b.0
table_end_once planner user one two k m One Two same rest (inl a) (inr b) = absurd (b.0 (full_alike planner user one two same a.1))
table_end_once planner user one two k m One Two same rest (inr a) (inl b) = absurd (a.0 (full_alike planner user two one (sym same) b.1))
table_end_once planner user one two k m One Two same rest (inr a) (inr b) = rest a.1 b.1

-- the number of differences alone decides
search_same : (planner : Model) (plan : List GroundAction) (one two : List Difference) (m : ℕ) → places_of one ≡ places_of two → AtSearch planner plan two m → AtSearch planner plan one m
search_same planner plan one two m same (inl under) = inl under
search_same planner plan one two m same (inr (cheapest, inl many)) = inr (cheapest, inl (many.0, omega (arith, many.1, as_many)))
  where
    as_many : length one ≡ length two
    as_many = sym (length-map one place_of) ∙ ap length same ∙ length-map two place_of
search_same planner plan one two m same (inr (cheapest, inr few)) = inr (cheapest, inr (few.0, omega (arith, few.1, as_many)))
  where
    as_many : length one ≡ length two
    as_many = sym (length-map one place_of) ∙ ap length same ∙ length-map two place_of

question_end_once : (request : Request) (planner user : Model) (plan : List GroundAction) (one two : List Difference) (k m : ℕ) → places_of one ≡ places_of two
    → AtQuestion request planner user plan one k → AtQuestion request planner user plan two m → k ≡ m
question_end_once (Explain kind files) planner user plan one two k m same a b =
    table_end_once planner user one two k m (AtPlan planner plan k (AtSearch planner plan one k)) (AtPlan planner plan m (AtSearch planner plan two m)) same
    (plan_end_once planner plan k m (AtSearch planner plan one k) (AtSearch planner plan two m) (λ x y. search_end_once planner plan one k m x (search_same planner plan one two m same y)))
    a b
question_end_once (Diff files) planner user plan one two k m same a b = a ∙ sym b
question_end_once (Patch files) planner user plan one two k m same a b = plan_end_once planner plan k m (k ≡ 0) (m ≡ 0) (λ x y. x ∙ sym y) a b
question_end_once (PlanPatch files) planner user plan one two k m same a b = plan_end_once planner plan k m (k ≡ 0) (m ≡ 0) (λ x y. x ∙ sym y) a b

never_past : (plan : List GroundAction) (count : ℕ) → count ≤ 256 → length plan ≤ 10000 → IsPast plan count → ⊥
never_past plan count few short (inl past) = omega arith
never_past plan count few short (inr past) = omega arith

never_large : (words : Vocabulary) → AreSmall words → IsLarge words → ⊥
never_large words small (inl large) = omega (arith, small.parameters)
never_large words small (inr large) = omega (arith, small.objects)

module _ (request : Request) (plan : List GroundAction) (planner user : Model) where
  counts_end_once : (places : List Place) (k m : ℕ) → ((k ≡ 7) × IsPast plan (length places)) ⊎ AreFew request planner user plan places k
      → ((m ≡ 7) × IsPast plan (length places)) ⊎ AreFew request planner user plan places m → k ≡ m
  counts_end_once places k m (inl a) (inl b) = a.0 ∙ sym b.0
  counts_end_once places k m (inl a) (inr b) = absurd (never_past plan (length places) b.few b.short a.1)
  counts_end_once places k m (inr a) (inl b) = absurd (never_past plan (length places) a.few a.short b.1)
  counts_end_once places k m (inr a) (inr b) = question_end_once request planner user plan a.differences b.differences k m (a.at_places ∙ sym b.at_places) a.rest b.rest

  differing_end_once : (k m : ℕ) → AreDiffering request planner user plan k → AreDiffering request planner user plan m → k ≡ m
  differing_end_once k m a b =
      let same = same_differences planner.words (meaning planner) (meaning user) b.places a.places b.all a.all in
      counts_end_once a.places k m a.rest (subst (λ ps. ((m ≡ 7) × IsPast plan (length ps)) ⊎ AreFew request planner user plan ps m) same b.rest)

joined_end_once : (request : Request) (one two : Model) (plan : List GroundAction) (k m : ℕ) → AreJoined request one two plan k → AreJoined request one two plan m → k ≡ m
joined_end_once request one two plan k m a b =
    let same = paired_once one two b.planner b.user a.planner a.user b.paired a.paired in
    let F : Model × Model → Type 0 = λ t. ((m ≡ 7) × IsLarge t.0.words) ⊎ (AreSmall t.0.words × AreDiffering request t.0 t.1 plan m) in
    both a.rest (subst F (λ i. (same.0 i, same.1 i)) b.rest)
  where
    both : ((k ≡ 7) × IsLarge a.planner.words) ⊎ (AreSmall a.planner.words × AreDiffering request a.planner a.user plan k)
        → ((m ≡ 7) × IsLarge a.planner.words) ⊎ (AreSmall a.planner.words × AreDiffering request a.planner a.user plan m) → k ≡ m
    both (inl x) (inl y) = x.0 ∙ sym y.0
    both (inl x) (inr y) = absurd (never_large a.planner.words y.0 x.1)
    both (inr x) (inl y) = absurd (never_large a.planner.words x.0 y.1)
    both (inr x) (inr y) = differing_end_once request plan a.planner a.user k m x.1 y.1

read_end_once : (request : Request) (contents : List (List ℕ)) (k m : ℕ) → AreRead request contents k → AreRead request contents m → k ≡ m
read_end_once request contents k m a b =
    let models = models_once contents b.planner_read b.user_read a.planner_read a.user_read b.models a.models in
    let steps = steps_once contents (has_plan request) b.planner_read a.planner_read b.plan a.plan models.0 b.planned a.planned in
    let F : Model × Model × List GroundAction → Type 0 = λ t. ((m ≡ 6) × ¬ Agree t.0.words t.1.words) ⊎ AreJoined request t.0 t.1 t.2 m in
    let moved = subst F (λ i. (models.0 i, models.1 i, steps i)) b.rest in
    both a.rest moved
  where
    both : ((k ≡ 6) × ¬ Agree a.planner_read.words a.user_read.words) ⊎ AreJoined request a.planner_read a.user_read a.plan k
        → ((m ≡ 6) × ¬ Agree a.planner_read.words a.user_read.words) ⊎ AreJoined request a.planner_read a.user_read a.plan m → k ≡ m
    both (inl x) (inl y) = x.0 ∙ sym y.0
    both (inl x) (inr y) = absurd (x.1 y.paired.agree)
    both (inr x) (inl y) = absurd (y.1 x.paired.agree)
    both (inr x) (inr y) = joined_end_once request a.planner_read a.user_read a.plan k m x y

-- the contents end with one status
pub ends_once : (request : Request) (contents : List (List ℕ)) (k m : ℕ) → EndsAt request contents k → EndsAt request contents m → k ≡ m
ends_once request contents k m (misread file fault is why) (misread other another too because) = is ∙ sym too
ends_once request contents k m (misread file fault is why) (read b) =
    absurd (never_read contents request b.planner_read b.user_read b.plan fault file b.models b.planned why)
ends_once request contents k m (read a) (misread file fault is why) =
    absurd (never_read contents request a.planner_read a.user_read a.plan fault file a.models a.planned why)
ends_once request contents k m (read a) (read b) = read_end_once request contents k m a b
