-- What is of a type is of each type above it, and an atom of a schema fits the vocabulary with an action's objects put in.
use Rattle.std.proofs.Common.{◌≡◌, ℕ, ◌+◌, ◌-◌, ◌<◌, ◌≤◌, zero, suc, Bool, true, false, List, [], ◌∷◌, length, get_or, map, Some, refl, sym, ap, subst, ◌∙◌, arith, zero-add, ⊎_elim}
use Rattle.std.specs.Prelude.{◌==◌, ◌≢◌, slice_get, slice_index}
use Rattle.std.specs.List.{list_any, range_with_len}
use Rattle.std.specs.Option.{option_map_or}
use Rattle.std.specs.Cmp.{first_so, second_so}
use Rattle.std.proofs.lemmas.Bool.{true≢false, and_parts, and_from, or_cases, eqb-true, eq-eqb, ne_eqb, cases_lt, cases_eq, false_from_ne_true}
use Rattle.std.proofs.lemmas.List.FromFn.{get_or-range_with_len, length-range_with_len}
use Rattle.std.proofs.lemmas.List.Folds.{list_any_at}
use Rattle.std.specs.Cmp.Lexicographic.{pointwise}
use Rattle.model_kit.specs.declared.vocabulary.Vocabulary.{Vocabulary}
use Rattle.model_kit.specs.declared.vocabulary.Signature.{Signature}
use Rattle.model_kit.specs.declared.atom.Term.{Term}
use Rattle.model_kit.specs.declared.atom.Term.TheVariants.{Param, Object}
use Rattle.model_kit.specs.Types.{parent, ancestor, is_of_type}
use Rattle.model_kit.specs.Vocabulary.{is_object_of, is_term_of, fits_signature}
use Rattle.model_kit.specs.Runs.{object_of}
use Rattle.mre_base.proofs.Loops.{All_item}
use Rattle.mre_base.proofs.ListOrder.{range-list_any}
use Rattle.model_kit.proofs.WordFacts.{TypeFacts, type_listed, facts_of_words}

-- a test passes at a number of a range
pub some_below : (p : ℕ → Bool) (n : ℕ) → list_any p (range_with_len 0 n) ≡ true → (k : ℕ) × (k < n) × (p k ≡ true)
some_below p n e = let at = range-list_any p 0 n e in (at.0, omega (arith, at.2), at.3)

pub any_below : (p : ℕ → Bool) (n k : ℕ) → k < n → p k ≡ true → list_any p (range_with_len 0 n) ≡ true
any_below p n k lt e =
    list_any_at p (range_with_len 0 n) k 0 (rw (length-range_with_len 0 n) lt) (subst (λ m. p m ≡ true) (sym (get_or-range_with_len 0 n k 0 lt ∙ zero-add k)) e)

module _ (types : List (List ℕ × ℕ)) where
  pub ancestor-add : (m n type : ℕ) → ancestor types (m + n) type ≡ ancestor types m (ancestor types n type)
  ancestor-add zero n type = ap (λ k. ancestor types k type) (zero-add n)
  ancestor-add (suc m) n type =
      let grows : suc m + n ≡ suc (m + n) = omega arith in
      ap (λ k. ancestor types k type) grows ∙ ap (parent types) (ancestor-add m n type)

  -- the number of parents up
  pub steps_up : (type above : ℕ) → is_of_type types type above ≡ true → (n : ℕ) × (n ≤ length types) × (ancestor types n type ≡ above)
  steps_up type above e =
      let at = some_below (λ n. ancestor types n type == above) (suc (length types)) e in
      (at.0, omega (arith, at.1), eqb-true (ancestor types at.0 type) above at.2)

  pub from_steps_up : (type above n : ℕ) → n ≤ length types → ancestor types n type ≡ above → is_of_type types type above ≡ true
  from_steps_up type above n le is = any_below (λ k. ancestor types k type == above) (suc (length types)) n (omega arith) (eq-eqb (ancestor types n type) above is)

  -- what is known after some parents up
  pub record Climbed (type above steps current : ℕ) : Type 0 where
    pub is : current ≡ ancestor types steps type
    pub passed : (k : ℕ) → k < steps → ancestor types k type ≢ above

  pub climbed_start : (type above : ℕ) → Climbed type above 0 type
  climbed_start type above = record { is = refl; passed = λ k lt. absurd (omega arith) }

  pub climbed_more : (type above steps current next : ℕ) → Climbed type above steps current → current ≢ above → next ≡ parent types current → Climbed type above (steps + 1) next
  climbed_more type above steps current next climbed other is = record {
    is = is ∙ ap (parent types) climbed.is ∙ sym (ap (λ n. ancestor types n type) grows);
    passed = λ k lt. ⊎_elim (λ before. climbed.passed k before) (λ at. let here : k ≡ steps = omega arith in λ same. other (climbed.is ∙ ap (λ n. ancestor types n type) (sym here) ∙ same)) (cases_lt k steps);
  }
    where
      grows : steps + 1 ≡ suc steps
      grows = omega arith

  -- the type above is here
  pub climbed_there : (type above steps current : ℕ) → Climbed type above steps current → steps ≤ length types → current ≡ above → is_of_type types type above ≡ true
  climbed_there type above steps current climbed le same = from_steps_up type above steps le (sym climbed.is ∙ same)

  -- it is nowhere on the way
  pub climbed_past : (type above steps current : ℕ) → Climbed type above steps current → length types ≤ steps → current ≢ above → is_of_type types type above ≡ false
  climbed_past type above steps current climbed all other =
      false_from_ne_true (is_of_type types type above) (λ e.
      let at = steps_up type above e in
      ⊎_elim (λ before. climbed.passed at.0 before at.2) (λ not_before. let here : at.0 ≡ steps = omega (arith, at.1, not_before) in other (climbed.is ∙ ap (λ n. ancestor types n type) (sym here) ∙ at.2)) (cases_lt at.0 steps))

  -- at the last type of the way
  pub climbed_end : (type above steps current : ℕ) → Climbed type above steps current → length types ≤ steps → steps ≤ length types → (current == above) ≡ is_of_type types type above
  climbed_end type above steps current climbed all le =
      ⊎_elim
      (λ same. eq-eqb current above same ∙ sym (climbed_there type above steps current climbed le same))
      (λ other. ne_eqb current above other ∙ sym (climbed_past type above steps current climbed all other))
      (cases_eq current above)

  module _ (facts : TypeFacts types) where
    top_parent : parent types 0 ≡ 0
    top_parent = ap (λ o. option_map_or (λ entry. entry.1) o 0) facts.first

    top_stays : (m : ℕ) → ancestor types m 0 ≡ 0
    top_stays zero = refl
    top_stays (suc m) = ap (parent types) (top_stays m) ∙ top_parent

    pub past_the_top : (type k m : ℕ) → k ≤ m → ancestor types k type ≡ 0 → ancestor types m type ≡ 0
    past_the_top type k m le at_k =
        let split : m ≡ (m - k) + k = omega arith in
        ap (λ j. ancestor types j type) split ∙ ancestor-add (m - k) k type ∙ ap (ancestor types (m - k)) at_k ∙ top_stays (m - k)

    -- of a type, and so of what that type is below
    pub is_of_type-trans : (type middle above : ℕ) → type < length types → is_of_type types type middle ≡ true → is_of_type types middle above ≡ true → is_of_type types type above ≡ true
    is_of_type-trans type middle above listed first second =
        let one = steps_up type middle first in
        let two = steps_up middle above second in
        let chain = steps_up type 0 (facts.chains type listed) in
        let whole : ancestor types (two.0 + one.0) type ≡ above = ancestor-add two.0 one.0 type ∙ ap (ancestor types two.0) one.2 ∙ two.2 in
        ⊎_elim
        (λ far. let top : above ≡ 0 = sym whole ∙ past_the_top type chain.0 (two.0 + one.0) (omega (arith, chain.1, far)) chain.2 in
        subst (λ a. is_of_type types type a ≡ true) (sym top) (facts.chains type listed))
        (λ near. from_steps_up type above (two.0 + one.0) near whole)
        (cases_lt (length types) (two.0 + one.0))

-- what a test of an entry says at the entry
pub entry_passes : {X : Type 0} (test : X → Bool) (xs : List X) (n : ℕ) → option_map_or test (slice_get xs n) false ≡ true → (x : X) × (slice_get xs n ≡ Some x) × (test x ≡ true)
entry_passes test [] n passes = absurd (true≢false (sym passes))
entry_passes test (x ∷ xs) zero passes = (x, refl, passes)
entry_passes test (x ∷ xs) (suc n) passes = entry_passes test xs n passes

pub entry_from : {X : Type 0} (test : X → Bool) (xs : List X) (n : ℕ) (x : X) → slice_get xs n ≡ Some x → test x ≡ true → option_map_or test (slice_get xs n) false ≡ true
entry_from test xs n x at passes = ap (λ o. option_map_or test o false) at ∙ passes

-- the argument at a place is of the type at that place
pub fits_at : {X : Type 0} (is_of : X → ℕ → Bool) (xs : List X) (types : List ℕ) → pointwise is_of xs types ≡ true → (i type : ℕ) (d : X) → slice_get types i ≡ Some type → is_of (get_or xs i d) type ≡ true
fits_at is_of [] [] fit i type d at = absurd (cc)
fits_at is_of [] (t ∷ types) fit i type d at = absurd (true≢false (sym fit))
fits_at is_of (x ∷ xs) [] fit i type d at = absurd (cc)
fits_at is_of (x ∷ xs) (t ∷ types) fit zero type d at =
    let same : t ≡ type = cc in subst (λ s. is_of x s ≡ true) same (first_so (is_of x t) (pointwise is_of xs types) fit)
fits_at is_of (x ∷ xs) (t ∷ types) fit (suc i) type d at = fits_at is_of xs types (second_so (is_of x t) (pointwise is_of xs types) fit) i type d at

module _ (words : Vocabulary) (params objects : List ℕ) (given : pointwise (is_object_of words) objects params ≡ true) where
  term_fits : (term : Term) (type : ℕ) → is_term_of words params term type ≡ true → is_object_of words (object_of objects term) type ≡ true
  term_fits (Object object) type fit = fit
  term_fits (Param i) type fit =
      let declared = entry_passes (λ d. is_of_type words.types d type) params i fit in
      let own = fits_at (is_object_of words) objects params given i declared.0 0 declared.1 in
      let entry = entry_passes (λ e. is_of_type words.types e.1 declared.0) words.objects (slice_index objects i) own in
      let facts = facts_of_words words in
      entry_from (λ e. is_of_type words.types e.1 type) words.objects (slice_index objects i) entry.0 entry.1
      (is_of_type-trans words.types facts.types_kept entry.0.1 declared.0 type
      (All_item words.objects (slice_index objects i) entry.0 entry.1 (λ e. e.1 < length words.types) (type_listed words.types words.objects facts.objects_kept)) entry.2 declared.2)

  pub args_fit : (args : List Term) (types : List ℕ) → pointwise (is_term_of words params) args types ≡ true → pointwise (is_object_of words) (map (object_of objects) args) types ≡ true
  args_fit [] [] fit = refl
  args_fit [] (t ∷ types) fit = absurd (true≢false (sym fit))
  args_fit (a ∷ args) [] fit = absurd (true≢false (sym fit))
  args_fit (a ∷ args) (t ∷ types) fit =
      let parts = and_parts (is_term_of words params a t) (pointwise (is_term_of words params) args types) fit in
      and_from (is_object_of words (object_of objects a) t) (pointwise (is_object_of words) (map (object_of objects) args) types) (term_fits a t parts.0) (args_fit args types parts.1)

  -- a predicate or function with terms of the schema fits it with the objects put in
  pub instance_fits : (signatures : List Signature) (n : ℕ) (args : List Term) → fits_signature (is_term_of words params) signatures n args ≡ true
      → fits_signature (is_object_of words) signatures n (map (object_of objects) args) ≡ true
  instance_fits signatures n args fit =
      let at = entry_passes (λ s. pointwise (is_term_of words params) args s.params) signatures n fit in
      entry_from (λ s. pointwise (is_object_of words) (map (object_of objects) args) s.params) signatures n at.0 at.1 (args_fit args at.0.params at.2)
