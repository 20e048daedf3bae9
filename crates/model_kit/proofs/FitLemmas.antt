-- The loops that test whether arguments fit, and whether the entries of a list pass and differ.
use Rattle.std.proofs.Common.{◌≡◌, ℕ, ◌+◌, ◌-◌, ◌<◌, ◌≤◌, ◌&&◌, ◌||◌, zero, suc, Bool, true, false, None, Some, List, [], ◌∷◌, length, drop, refl, sym, ap, ◌∙◌, subst, arith}
use Rattle.std.specs.Prelude.{◌≢◌, not, Option, slice_get, IfSome}
use Rattle.std.specs.List.{list_any, list_all, range_with_len}
use Rattle.std.proofs.lemmas.Bool.{true≢false, and_from, not-true, not_from_false, false_from_ne_true}
use Rattle.std.specs.Cmp.{first_so, second_so}
use Rattle.std.specs.Cmp.Lexicographic.{pointwise}
use Rattle.model_kit.specs.Names.{are_distinct}
use Rattle.mre_base.proofs.Loops.{drop_item}
use Rattle.model_kit.proofs.WordFacts.{below_decides}

module _ {X Y : Type 0} (is_of : X → Y → Bool) where
  -- lists that fit are equally long
  pub pointwise_count : (xs : List X) (ys : List Y) → pointwise is_of xs ys ≡ true → length xs ≡ length ys
  pointwise_count [] [] fit = refl
  pointwise_count [] (y ∷ ys) fit = absurd (true≢false (sym fit))
  pointwise_count (x ∷ xs) [] fit = absurd (true≢false (sym fit))
  pointwise_count (x ∷ xs) (y ∷ ys) fit = ap suc (pointwise_count xs ys (second_so (is_of x y) (pointwise is_of xs ys) fit))

module _ {X Y : Type 0} (is_of : X → Y → Bool) (xs : List X) (types : List Y) where
  pub fit_lengths : length xs ≢ length types → false ≡ pointwise is_of xs types
  fit_lengths apart = sym (false_from_ne_true (pointwise is_of xs types) (λ fit. apart (pointwise_count is_of xs types fit)))

  module _ (i : ℕ) (x : X) (type : Y) (at_x : slice_get xs i ≡ Some x) (at_type : slice_get types i ≡ Some type) (before : pointwise is_of (drop i xs) (drop i types) ≡ pointwise is_of xs types) where
    fit_here : (is_of x type && pointwise is_of (drop (i + 1) xs) (drop (i + 1) types)) ≡ pointwise is_of xs types
    fit_here = (λ j. pointwise is_of (sym (drop_item xs i x at_x) j) (sym (drop_item types i type at_type) j)) ∙ before

    pub fit_more : is_of x type ≡ true → pointwise is_of (drop (i + 1) xs) (drop (i + 1) types) ≡ pointwise is_of xs types
    fit_more passes = sym (ap (λ b. b && pointwise is_of (drop (i + 1) xs) (drop (i + 1) types)) passes) ∙ fit_here

    pub fit_fails : is_of x type ≡ false → false ≡ pointwise is_of xs types
    fit_fails fails = sym (ap (λ b. b && pointwise is_of (drop (i + 1) xs) (drop (i + 1) types)) fails) ∙ fit_here

-- ---- lists of entries

slice_get_none : {X : Type 0} (xs : List X) (n : ℕ) → n < length xs → slice_get xs n ≡ None → ⊥
slice_get_none [] n lt is = omega arith
slice_get_none (x ∷ xs) zero lt is = cc
slice_get_none (x ∷ xs) (suc n) lt is = slice_get_none xs n (omega arith) is

module _ {X : Type 0} (p : X → Bool) (xs : List X) (i : ℕ) (x : X) (at : slice_get xs i ≡ Some x) (answer : Bool) where
  pub any_here : list_any p (drop i xs) ≡ answer → p x ≡ true → true ≡ answer
  any_here before hit = sym (ap (list_any p) (drop_item xs i x at) ∙ ap (λ b. b || list_any p (drop (i + 1) xs)) hit) ∙ before

  pub any_more : list_any p (drop i xs) ≡ answer → p x ≡ false → list_any p (drop (i + 1) xs) ≡ answer
  any_more before miss = sym (ap (list_any p) (drop_item xs i x at) ∙ ap (λ b. b || list_any p (drop (i + 1) xs)) miss) ∙ before

  pub all_fails : list_all p (drop i xs) ≡ answer → p x ≡ false → false ≡ answer
  all_fails before miss = sym (ap (list_all p) (drop_item xs i x at) ∙ ap (λ b. b && list_all p (drop (i + 1) xs)) miss) ∙ before

  pub all_more : list_all p (drop i xs) ≡ answer → p x ≡ true → list_all p (drop (i + 1) xs) ≡ answer
  all_more before hit = sym (ap (list_all p) (drop_item xs i x at) ∙ ap (λ b. b && list_all p (drop (i + 1) xs)) hit) ∙ before

module _ {X : Type 0} (same : X → X → Bool) where
  -- the end of a list of distinct entries
  distinct_drop : (n : ℕ) (xs : List X) → are_distinct same xs ≡ true → are_distinct same (drop n xs) ≡ true
  distinct_drop zero xs e = e
  distinct_drop (suc n) [] e = refl
  distinct_drop (suc n) (x ∷ xs) e = distinct_drop n xs (second_so (not (list_any (same x) xs)) (are_distinct same xs) e)

  module _ (xs : List X) (place : ℕ) (positive : 0 < place) (within : place ≤ length xs) (answer : Bool)
      (said : IfSome (slice_get xs (place - 1)) (λ entry. answer ≡ list_any (same entry) (drop (place - 1 + 1) xs))) where
    back : place - 1 + 1 ≡ place
    back = omega arith

    -- the entry before the place, and what was said of it
    entry_before : (x : X) × (drop (place - 1) xs ≡ x ∷ drop place xs) × (answer ≡ list_any (same x) (drop place xs))
    entry_before = by (slice_get xs (place - 1)) refl said
      where
        by : (o : Option X) → slice_get xs (place - 1) ≡ o → IfSome o (λ entry. answer ≡ list_any (same entry) (drop (place - 1 + 1) xs)) → (x : X) × (drop (place - 1) xs ≡ x ∷ drop place xs) × (answer ≡ list_any (same x) (drop place xs))
        by None is told = absurd (slice_get_none xs (place - 1) (omega arith) is)
        by (Some x) is told = (x, drop_item xs (place - 1) x is ∙ ap (λ j. x ∷ drop j xs) back, told ∙ ap (λ j. list_any (same x) (drop j xs)) back)

    pub distinct_more : are_distinct same (drop place xs) ≡ true → answer ≡ false → are_distinct same (drop (place - 1) xs) ≡ true
    distinct_more before single =
        let entry = entry_before in
        ap (are_distinct same) entry.1
        ∙ and_from (not (list_any (same entry.0) (drop place xs))) (are_distinct same (drop place xs)) (not_from_false (list_any (same entry.0) (drop place xs)) (sym entry.2 ∙ single)) before

    pub distinct_fails : answer ≡ true → false ≡ are_distinct same xs
    distinct_fails again =
        let entry = entry_before in
        sym (false_from_ne_true (are_distinct same xs) (λ e.
        let here : (not (list_any (same entry.0) (drop place xs)) && are_distinct same (drop place xs)) ≡ true = sym (ap (are_distinct same) entry.1) ∙ distinct_drop (place - 1) xs e in
        true≢false (sym (sym entry.2 ∙ again) ∙ not-true (list_any (same entry.0) (drop place xs)) (first_so (not (list_any (same entry.0) (drop place xs))) (are_distinct same (drop place xs)) here))))

-- a test of the numbers below n, in a loop over them
module _ (p : ℕ → Bool) (n : ℕ) where
  pub below_all : (k : ℕ) → n ≤ k → ((j : ℕ) → j < k → p j ≡ true) → true ≡ list_all p (range_with_len 0 n)
  below_all k all each = sym ((below_decides p n).1 (λ j lt. each j (omega arith)))

  pub below_fails : (k : ℕ) → k < n → p k ≡ false → false ≡ list_all p (range_with_len 0 n)
  below_fails k lt miss = sym (false_from_ne_true (list_all p (range_with_len 0 n)) (λ e. true≢false (sym ((below_decides p n).0 e k lt) ∙ miss)))
