-- Complete and monotonic sets of two models, and the first of them, by tests that compute.
use Rattle.std.proofs.Common.{◌≡◌, ℕ, Bool, true, false, List, length, map, sym, ap, subst, ◌∙◌, ⊎_elim}
use Rattle.std.specs.Prelude.{◌↔◌, ◌≢◌, ◌||◌, ◌&&◌, not, Contains}
use Rattle.std.specs.Bool.{Decides, beq}
use Rattle.std.specs.List.{list_all}
use Rattle.std.specs.Ordering.{nat_cmp}
use Rattle.std.specs.Cmp.{nat_cmp_total}
use Rattle.std.specs.FinSet as set
use Rattle.std.proofs.lemmas.Bool.{true≢false, cases_Bool, and_parts, or_cases, or_left, or_right, not-true, not_from_false}
use Rattle.mre_base.specs.Before.{numbers, is_lighter}
use Rattle.model_kit.specs.declared.vocabulary.Vocabulary.{Vocabulary}
use Rattle.model_kit.specs.declared.atom.GroundAtom.{GroundAtom}
use Rattle.model_kit.specs.declared.action.GroundAction.{GroundAction}
use Rattle.model_kit.specs.declared.model.Model.{Model}
use Rattle.model_kit.specs.Same.{same_numbers}
use Rattle.model_kit.specs.Places.{Place, Meaning, meaning}
use Rattle.model_kit.specs.Differences.{patched}
use Rattle.model_kit.specs.Runs.{IsCheapest}
use Rattle.model_kit.specs.Explanations.{Task, IsWithin, IsComplete, IsMonotonic, IsFirst, IsMCE, IsMME}
use Rattle.model_kit.specs.Laws.{task_of}
use Rattle.model_kit.proofs.Alike.{same_numbers-decides}
use Rattle.model_kit.proofs.Ands.{and3}
use Rattle.model_kit.proofs.ListLemmas.{beq-decides}
use Rattle.model_kit.proofs.StepLemmas.{listed_from_any}
use Rattle.model_kit.proofs.OrderLemmas.{contains_numbers, before_one_way}
use Rattle.model_kit.proofs.CostLemmas.{is_cheapest, is_cheapest-says, is_cheaper, is_cheaper-says}
use Rattle.model_kit.proofs.PatchedLemmas.{after_some, finite_after}
use Rattle.model_examples.specs.Told.{of}
use Rattle.model_examples.proofs.Sets.{is_among, all_lists, all_from, at_listed, each_set, of_contains, of_numbers, is_normal, numbers_of, of_within, is_part, part_of, in_whole, is_listed, listed_set}

-- why a plan is or isn't cheapest: a distance from every state and one from each atom; or a list that costs less
pub data Reason : Type 0 where
  Far : ℕ → (GroundAtom → ℕ) → Reason
  Cheaper : List GroundAction → Reason

-- ---- the first of the sets of lists

-- the list is one of them and before each other
abbrev pub is_first_list : Task → List (List ℕ) → List ℕ → Bool
is_first_list task lists xs = is_normal (length task.places) xs && is_listed lists xs && list_all (λ ys. same_numbers ys xs || is_lighter task.weights xs ys) lists

module _ (task : Task) (P : set.FinSet nat_cmp → Type 0) (lists : List (List ℕ)) (even : length task.weights ≡ length task.places)
    (normal : list_all (is_normal (length task.places)) lists ≡ true)
    (known : (told : set.FinSet nat_cmp) → IsWithin task told → P told ↔ Contains (map of lists) told) where
  abbrev d : ℕ
  d = length task.places

  pub first_by : (xs : List ℕ) → is_first_list task lists xs ≡ true → IsFirst task P (of xs)
  first_by xs e = record {
    within = within;
    has = (known (of xs) within).1 ((listed_set d lists normal (of xs) within).0 (ap (is_listed lists) (numbers_of d xs parts.0) ∙ parts.1));
    first = λ other inside has apart.
        let at = (listed_set d lists normal other inside).1 ((known other inside).0 has) in
        let e = among (numbers d other) at in
        ⊎_elim (λ same. absurd (apart (sym (of_numbers d other inside) ∙ ap of ((same_numbers-decides (numbers d other) xs).0 same))))
        (λ light. subst (λ n. is_lighter task.weights (numbers n (of xs)) (numbers n other) ≡ true) (sym even) (ap (λ ys. is_lighter task.weights ys (numbers d other)) (numbers_of d xs parts.0) ∙ light)) (or_cases (same_numbers (numbers d other) xs) (is_lighter task.weights xs (numbers d other)) e);
  }
    where
      parts : (is_normal d xs ≡ true) × (is_listed lists xs ≡ true) × (list_all (λ ys. same_numbers ys xs || is_lighter task.weights xs ys) lists ≡ true)
      parts = and3 (is_normal d xs) (is_listed lists xs) (list_all (λ ys. same_numbers ys xs || is_lighter task.weights xs ys) lists) e

      within : IsWithin task (of xs)
      within = of_within d xs parts.0

      among : (ys : List ℕ) → is_listed lists ys ≡ true → (same_numbers ys xs || is_lighter task.weights xs ys) ≡ true
      among ys at = at_listed (λ zs. same_numbers zs xs || is_lighter task.weights xs zs) lists parts.2 ys (listed_from_any same_numbers same_numbers-decides ys lists at)

-- ---- complete sets, and monotonic sets

module _ (words : Vocabulary) (planner user : Model) (places : List Place) (weights : List ℕ) (plan : List GroundAction) where
  abbrev pub pair : Task
  pair = task_of words planner user places weights plan

  abbrev count : ℕ
  count = length places

  -- the user's model after the differences with these numbers
  abbrev after_list : List ℕ → Meaning
  after_list xs = after_some planner user places (is_among xs)

  abbrev shows : List (List ℕ) → List ℕ → Reason → Bool
  shows lists xs (Far base distance) = is_listed lists xs && is_cheapest words (after_list xs) (finite_after planner user places (is_among xs)) base distance plan
  shows lists xs (Cheaper other) = not (is_listed lists xs) && is_cheaper words (after_list xs) (finite_after planner user places (is_among xs)) other plan

  -- the lists are those of the sets after which the plan is cheapest, for these reasons
  abbrev pub are_complete : (List ℕ → Reason) → List (List ℕ) → Bool
  are_complete reason lists = list_all (is_normal count) lists && list_all (λ xs. shows lists xs (reason xs)) (all_lists count)

  -- the lists are those of the sets whose greater sets are all listed
  abbrev greater_listed : List (List ℕ) → List ℕ → Bool
  greater_listed lists xs = list_all (λ ys. not (is_part xs ys) || is_listed lists ys) (all_lists count)

  abbrev pub are_monotonic : List (List ℕ) → List (List ℕ) → Bool
  are_monotonic lists monotonic =
      list_all (is_normal count) monotonic && list_all (is_normal count) (all_lists count) && list_all (λ xs. beq (greater_listed lists xs) (is_listed monotonic xs)) (all_lists count)

  module _ (reason : List ℕ → Reason) (lists : List (List ℕ)) (e : are_complete reason lists ≡ true) where
    normal : list_all (is_normal count) lists ≡ true
    normal = (and_parts (list_all (is_normal count) lists) (list_all (λ xs. shows lists xs (reason xs)) (all_lists count)) e).0

    -- the user's model after a set is that after its numbers
    after_told : (told : set.FinSet nat_cmp) → IsWithin pair told → patched (meaning planner) (meaning user) places told ≡ after_list (numbers count told)
    after_told told within =
        let same : set.contains told ≡ is_among (numbers count told) = λ i q. contains_numbers count told within q i in
        ap (after_some planner user places) same

    complete_listed : (told : set.FinSet nat_cmp) → IsWithin pair told → Decides (is_listed lists (numbers count told)) (IsComplete pair told)
    complete_listed told within =
        let xs = numbers count told in
        let shown = each_set (λ ys. shows lists ys (reason ys)) count (and_parts (list_all (is_normal count) lists) (list_all (λ ys. shows lists ys (reason ys)) (all_lists count)) e).1 told in
        by (reason xs) shown
      where
        by : (r : Reason) → shows lists (numbers count told) r ≡ true → Decides (is_listed lists (numbers count told)) (IsComplete pair told)
        by (Far base distance) shown =
            let xs = numbers count told in
            let parts = and_parts (is_listed lists xs) (is_cheapest words (after_list xs) (finite_after planner user places (is_among xs)) base distance plan) shown in (
              λ _. subst (λ m. IsCheapest words m plan) (sym (after_told told within)) (is_cheapest-says words (after_list xs) (finite_after planner user places (is_among xs)) base distance plan parts.1),
              λ _. parts.0,
            )
        by (Cheaper other) shown =
            let xs = numbers count told in
            let parts = and_parts (not (is_listed lists xs)) (is_cheaper words (after_list xs) (finite_after planner user places (is_among xs)) other plan) shown in (
              λ e. absurd (true≢false (sym e ∙ not-true (is_listed lists xs) parts.0)),
              λ cheapest. absurd (is_cheaper-says words (after_list xs) (finite_after planner user places (is_among xs)) other plan parts.1 (subst (λ m. IsCheapest words m plan) (after_told told within) cheapest)),
            )

    -- the complete sets are those of the lists
    pub complete_by : (told : set.FinSet nat_cmp) → IsWithin pair told → IsComplete pair told ↔ Contains (map of lists) told
    complete_by told within =
        let decided = complete_listed told within in
        let listed = listed_set count lists normal told within in
        (λ complete. listed.0 (decided.1 complete), λ at. decided.0 (listed.1 at))

    pub mce_by : (even : length weights ≡ length places) (xs : List ℕ) → is_first_list pair lists xs ≡ true → IsMCE pair (of xs)
    mce_by even xs first = first_by pair (IsComplete pair) lists even normal complete_by xs first

    module _ (monotonic : List (List ℕ)) (k : are_monotonic lists monotonic ≡ true) where
      tidy : (list_all (is_normal count) monotonic ≡ true) × (list_all (is_normal count) (all_lists count) ≡ true) × (list_all (λ xs. beq (greater_listed lists xs) (is_listed monotonic xs)) (all_lists count) ≡ true)
      tidy = and3 (list_all (is_normal count) monotonic) (list_all (is_normal count) (all_lists count)) (list_all (λ xs. beq (greater_listed lists xs) (is_listed monotonic xs)) (all_lists count)) k

      -- a set is monotonic where each greater list is listed
      monotonic_listed : (told : set.FinSet nat_cmp) → IsWithin pair told → Decides (greater_listed lists (numbers count told)) (IsMonotonic pair told)
      monotonic_listed told within = (
        λ all more inside greater.
            let part = part_of (numbers count told) (numbers count more)
            (λ q e. sym (contains_numbers count more inside q) ∙ set.is_subset-contains nat_cmp_total told more greater q (contains_numbers count told within q ∙ e)) in
            let here = each_set_in lists (numbers count told) all more in
            ⊎_elim (λ apart. absurd (true≢false (sym part ∙ not-true (is_part (numbers count told) (numbers count more)) apart))) (λ listed. (complete_listed more inside).0 listed)
            (or_cases (not (is_part (numbers count told) (numbers count more))) (is_listed lists (numbers count more)) here),
        λ always. all_from (λ ys. not (is_part (numbers count told) ys) || is_listed lists ys) (all_lists count)
            (λ ys at.
            let own = at_listed (is_normal count) (all_lists count) tidy.1 ys at in
            let inside : IsWithin pair (of ys) = of_within count ys own in
            ⊎_elim
            (λ part. or_right (not (is_part (numbers count told) ys)) (is_listed lists ys)
            (ap (is_listed lists) (sym (numbers_of count ys own))
            ∙ (complete_listed (of ys) inside).1 (always (of ys) inside (set.contains-is_subset nat_cmp_total told (of ys)
            (λ q there. of_contains ys q ∙ in_whole (numbers count told) ys part q (sym (contains_numbers count told within q) ∙ there))))))
            (λ apart. or_left (not (is_part (numbers count told) ys)) (is_listed lists ys) (not_from_false (is_part (numbers count told) ys) apart))
            (cases_Bool (is_part (numbers count told) ys))),
      )
        where
          each_set_in : (lists : List (List ℕ)) (xs : List ℕ) → greater_listed lists xs ≡ true → (more : set.FinSet nat_cmp) → (not (is_part xs (numbers count more)) || is_listed lists (numbers count more)) ≡ true
          each_set_in lists xs all more = each_set (λ ys. not (is_part xs ys) || is_listed lists ys) count all more

      -- the monotonic sets are those of the lists
      pub monotonic_by : (told : set.FinSet nat_cmp) → IsWithin pair told → IsMonotonic pair told ↔ Contains (map of monotonic) told
      monotonic_by told within =
          let decided = monotonic_listed told within in
          let listed = listed_set count monotonic tidy.0 told within in
          let same : greater_listed lists (numbers count told) ≡ is_listed monotonic (numbers count told) =
          (beq-decides (greater_listed lists (numbers count told)) (is_listed monotonic (numbers count told))).0
          (each_set (λ xs. beq (greater_listed lists xs) (is_listed monotonic xs)) count tidy.2 told) in
          (λ always. listed.0 (sym same ∙ decided.1 always), λ at. decided.0 (same ∙ listed.1 at))

      pub mme_by : (even : length weights ≡ length places) (xs : List ℕ) → is_first_list pair monotonic xs ≡ true → IsMME pair (of xs)
      mme_by even xs first = first_by pair (IsMonotonic pair) monotonic even tidy.0 monotonic_by xs first

-- ---- sets that aren't

module _ (task : Task) (P : set.FinSet nat_cmp → Type 0) (xs ys : List ℕ) (first : IsFirst task P (of xs)) where
  pub not_first_by : is_normal (length task.places) xs ≡ true → is_normal (length task.places) ys ≡ true → same_numbers xs ys ≡ false → IsFirst task P (of ys) → ⊥
  not_first_by normal other_normal apart other =
      let differ : of ys ≢ of xs = λ same. true≢false
      (sym ((same_numbers-decides xs ys).1 (sym (numbers_of (length task.places) xs normal) ∙ ap (numbers (length task.places)) (sym same) ∙ numbers_of (length task.places) ys other_normal)) ∙ apart) in
      before_one_way task.weights (of xs) (of ys) (first.first (of ys) other.within other.has differ) (other.first (of xs) first.within first.has (λ same. differ (sym same)))

module _ (words : Vocabulary) (planner user : Model) (places : List Place) (weights : List ℕ) (plan : List GroundAction)
    (reason : List ℕ → Reason) (lists : List (List ℕ)) (e : are_complete words planner user places weights plan reason lists ≡ true) where
  abbrev asked : Task
  asked = task_of words planner user places weights plan

  pub not_complete_by : (xs : List ℕ) → is_normal (length places) xs ≡ true → is_listed lists xs ≡ false → ¬ IsComplete asked (of xs)
  not_complete_by xs normal away complete =
      let within = of_within (length places) xs normal in
      let listed = (listed_set (length places) lists (normal_lists) (of xs) within).1 ((complete_by words planner user places weights plan reason lists e (of xs) within).0 complete) in
      true≢false (sym listed ∙ ap (is_listed lists) (numbers_of (length places) xs normal) ∙ away)
    where
      normal_lists : list_all (is_normal (length places)) lists ≡ true
      normal_lists = (and_parts (list_all (is_normal (length places)) lists) _ e).0

  pub not_monotonic_by : (monotonic : List (List ℕ)) → are_monotonic words planner user places weights plan lists monotonic ≡ true → (xs : List ℕ)
      → is_normal (length places) xs ≡ true → is_listed monotonic xs ≡ false → ¬ IsMonotonic asked (of xs)
  not_monotonic_by monotonic k xs normal away always =
      let within = of_within (length places) xs normal in
      let listed = (listed_set (length places) monotonic normal_lists (of xs) within).1 ((monotonic_by words planner user places weights plan reason lists e monotonic k (of xs) within).0 always) in
      true≢false (sym listed ∙ ap (is_listed monotonic) (numbers_of (length places) xs normal) ∙ away)
    where
      normal_lists : list_all (is_normal (length places)) monotonic ≡ true
      normal_lists = (and3 (list_all (is_normal (length places)) monotonic) _ _ k).0
