-- The place of a printed form among those that ascend, and the numbers of a plan's steps.
use Rattle.std.proofs.Common.{◌≡◌, ℕ, suc, ◌+◌, ◌<◌, Option, None, Some, List, [], ◌∷◌, ◌++◌, length, map, get_or, refl, sym, ap, subst, ◌∙◌, arith, ⊎_elim}
use Rattle.std.specs.Prelude.{slice_get, All, AllPairs, Contains}
use Rattle.std.specs.Ordering.{is_eq, is_lt, ordering_index, ordering_reverse}
use Rattle.std.specs.declared.cmp.Ordering.TheVariants.{Less, Equal, Greater}
use Rattle.std.specs.Cmp.{Equal-is}
use Rattle.std.specs.List.{HoldsAt}
use Rattle.std.specs.List.Sorted.{IsSortedBy, IsNonDecreasingBy, IsPartitionPoint}
use Rattle.std.specs.Option.{option_map}
use Rattle.std.proofs.lemmas.Bool.{cases_lt}
use Rattle.std.proofs.lemmas.Cmp.{nat_list_cmp_total}
use Rattle.std.proofs.lemmas.List.Elements.{All-contains}
use Rattle.std.proofs.lemmas.List.Sorted.{searchable_from_sorted}
use Rattle.std.proofs.lemmas.Option.{slice_get-get_or, slice_get-map}
use Rattle.model_kit.specs.declared.vocabulary.Vocabulary.{Vocabulary}
use Rattle.model_kit.specs.declared.action.GroundAction.{GroundAction}
use Rattle.model_kit.specs.Differences.{IsPrintedBefore}
use Rattle.model_kit.specs.Printed.{action_form}
use Rattle.model_kit.specs.Vocabulary.{IsGroundAction}
use Rattle.named_tables.specs.Numbered.{AreNumbersOf}
use Rattle.ground_core.specs.ActionForms.{action_form-injective}
use Rattle.ground_core.specs.Names.{AreNamed, IsListed, AreListed, IsUnlisted}
use Rattle.ground_core.proofs.OrderLemmas.{text_cmp, tie_same, same_tie}
use Rattle.mre_base.proofs.Listed.{item_contained}

-- forms that ascend rise for a search
sorted_names : (names : List (List ℕ)) → AllPairs IsPrintedBefore names → IsSortedBy (λ a b. is_lt (text_cmp a b)) names
sorted_names names ascend k d low high =
    let total = nat_list_cmp_total in
    let less : text_cmp (get_or names k d) (get_or names (k + 1) d) ≡ Less = ascend k (k + 1) d (omega arith) high in
    ap is_lt (total.antisymm (get_or names (k + 1) d) (get_or names k d) ∙ ap ordering_reverse less)

there : (names : List (List ℕ)) (name : List ℕ) (k : ℕ) → k < length names → HoldsAt (λ y. text_cmp y name ≡ Equal) names k → slice_get names k ≡ Some name
there names name k lt holds =
    let same : get_or names k name ≡ name = tie_same (get_or names k name) name (ap is_eq (holds name)) in
    slice_get-get_or names k name lt ∙ ap Some same

nowhere : (names : List (List ℕ)) (name : List ℕ) → AllPairs IsPrintedBefore names → (k : ℕ)
    → (IsNonDecreasingBy (λ y. ordering_index (text_cmp y name)) names → IsPartitionPoint (λ y. text_cmp y name ≡ Less) (λ y. text_cmp y name ≡ Greater) names k)
    → Contains names name → ⊥
nowhere names name ascend k parted (j, lt, is) =
    let (low, high) = parted (searchable_from_sorted nat_list_cmp_total (λ y. y) names name (sorted_names names ascend)) in
    let equal : text_cmp (get_or names j name) name ≡ Equal = ap (λ y. text_cmp y name) is ∙ tied in
    ⊎_elim
    (λ less. no_less (sym (low j name (omega arith) less) ∙ equal))
    (λ more. no_greater (sym (high j name more lt) ∙ equal))
    (cases_lt j k)
  where
    tied : text_cmp name name ≡ Equal
    tied = (Equal-is (text_cmp name name)).0 (same_tie name name refl)

    no_less : Less ≡ Equal → ⊥
    no_less e = absurd (cc)

    no_greater : Greater ≡ Equal → ⊥
    no_greater e = absurd (cc)

-- likewise in a list that equals the searched one
module _ (searched names : List (List ℕ)) (same : searched ≡ names) (name : List ℕ) where
  pub found_there : (k : ℕ) → k < length searched → HoldsAt (λ y. text_cmp y name ≡ Equal) searched k → slice_get names k ≡ Some name
  found_there k lt holds = subst (λ list. slice_get list k ≡ Some name) same (there searched name k lt holds)

  pub found_nowhere : AllPairs IsPrintedBefore names → (k : ℕ)
      → (IsNonDecreasingBy (λ y. ordering_index (text_cmp y name)) searched → IsPartitionPoint (λ y. text_cmp y name ≡ Less) (λ y. text_cmp y name ≡ Greater) searched k)
      → Contains names name → ⊥
  found_nowhere ascend k parted among = nowhere searched name (subst (AllPairs IsPrintedBefore) (sym same) ascend) k parted (subst (λ list. Contains list name) (sym same) among)

module _ (words : Vocabulary) (names : List (List ℕ)) where
  -- one more step
  pub named_more : (numbers : List ℕ) (steps : List GroundAction) (number : ℕ) (step : GroundAction) → AreNamed words names numbers steps → slice_get names number ≡ Some (action_form words step)
      → AreNamed words names (numbers ++ number ∷ []) (steps ++ step ∷ [])
  named_more [] [] number step are is = (is, tt)
  named_more (n ∷ numbers) (s ∷ steps) number step (here, are) is = (here, named_more numbers steps number step are is)
  named_more [] (s ∷ steps) number step are is = absurd (are)
  named_more (n ∷ numbers) [] number step are is = absurd (are)

  pub not_unlisted : (steps : List GroundAction) → AreListed words names steps → IsUnlisted words names steps → ⊥
  not_unlisted steps listed (step, among, unlisted) = unlisted (All-contains (IsListed words names) steps step listed among)

-- numbers by names are numbers of actions
pub numbers_by_names : (words : Vocabulary) (actions : List GroundAction) → All (IsGroundAction words) actions → (numbers : List ℕ) (plan : List GroundAction) → All (IsGroundAction words) plan
    → AreNamed words (map (action_form words) actions) numbers plan → AreNumbersOf actions numbers plan
numbers_by_names words actions fit [] [] plan_fits are = tt
numbers_by_names words actions fit [] (step ∷ plan) plan_fits are = absurd (are)
numbers_by_names words actions fit (number ∷ numbers) [] plan_fits are = absurd (are)
numbers_by_names words actions fit (number ∷ numbers) (step ∷ plan) plan_fits (here, are) =
    (by (slice_get actions number) refl (sym (slice_get-map (action_form words) actions number) ∙ here), numbers_by_names words actions fit numbers plan (λ k d lt. plan_fits (suc k) d (omega arith)) are)
  where
    by : (o : Option GroundAction) → slice_get actions number ≡ o → option_map (action_form words) o ≡ Some (action_form words step) → slice_get actions number ≡ Some step
    by None at is = absurd (cc)
    by (Some action) at is =
        let same : action_form words action ≡ action_form words step = cc in
        at ∙ ap Some (action_form-injective words action step (All-contains (IsGroundAction words) actions action fit (item_contained actions number action at)) (plan_fits 0 step (omega arith)) same)
