-- Which entries of lists pass tests, and that no two of them are the same.
use Rattle.std.proofs.Common.{◌≡◌, ℕ, ◌+◌, ◌<◌, ◌&&◌, ◌||◌, Bool, true, false, cond, Some, None, Option, List, [], ◌∷◌, ◌++◌, length, map, refl, ap, ◌∙◌, arith}
use Rattle.std.specs.Prelude.{not, filter, unwrap_or}
use Rattle.std.specs.List.{list_any, list_all, position_from}
use Rattle.std.specs.Str.{bytes_eq}
use Rattle.std.proofs.lemmas.Bool.{true≢false, and_parts, and_from, not-true, not_from_false}
use Rattle.std.proofs.lemmas.List.Folds.{list_any-append}
use Rattle.std.proofs.lemmas.Map.Views.{any-filter_same}
use Rattle.mre_base.specs.declared.text.Text.{Text}
use Rattle.model_kit.specs.Names.{are_distinct}
use Rattle.model_kit.proofs.StateLemmas.{list_any-map}
use Rattle.pddl_vocabulary.specs.Values.{firsts, place_in}
use Rattle.pddl_vocabulary.proofs.GatherLemmas.{position_within}

-- ---- tests of all entries

pub all_filter : {X : Type 0} (p q : X → Bool) (xs : List X) → list_all p xs ≡ true → list_all p (filter q xs) ≡ true
all_filter p q [] all = refl
all_filter p q (x ∷ xs) all =
    let both = and_parts (p x) (list_all p xs) all in by (q x) both.0 (all_filter p q xs both.1)
  where
    by : (b : Bool) → p x ≡ true → list_all p (filter q xs) ≡ true → list_all p (cond b (x ∷ filter q xs) (filter q xs)) ≡ true
    by true first more = and_from (p x) (list_all p (filter q xs)) first more
    by false first more = more

pub all_firsts : {X : Type 0} (p : X → Bool) (same : X → X → Bool) (xs : List X) → list_all p xs ≡ true → list_all p (firsts same xs) ≡ true
all_firsts p same [] all = refl
all_firsts p same (x ∷ xs) all =
    let both = and_parts (p x) (list_all p xs) all in
    and_from (p x) (list_all p (filter (λ y. not (same x y)) (firsts same xs))) both.0
    (all_filter p (λ y. not (same x y)) (firsts same xs) (all_firsts p same xs both.1))

pub all_map : {X Y : Type 0} (p : Y → Bool) (f : X → Y) (xs : List X) → list_all (λ x. p (f x)) xs ≡ true → list_all p (map f xs) ≡ true
all_map p f [] all = refl
all_map p f (x ∷ xs) all =
    let both = and_parts (p (f x)) (list_all (λ y. p (f y)) xs) all in and_from (p (f x)) (list_all p (map f xs)) both.0 (all_map p f xs both.1)

pub all_append : {X : Type 0} (p : X → Bool) (xs ys : List X) → list_all p xs ≡ true → list_all p ys ≡ true → list_all p (xs ++ ys) ≡ true
all_append p [] ys one two = two
all_append p (x ∷ xs) ys one two =
    let both = and_parts (p x) (list_all p xs) one in and_from (p x) (list_all p (xs ++ ys)) both.0 (all_append p xs ys both.1 two)

pub all_ways : {X : Type 0} (p : X → Bool) → ((x : X) → p x ≡ true) → (xs : List X) → list_all p xs ≡ true
all_ways p each [] = refl
all_ways p each (x ∷ xs) = and_from (p x) (list_all p xs) (each x) (all_ways p each xs)

pub all_both : {X : Type 0} (p q : X → Bool) → ((x : X) → q x ≡ true) → (xs : List X) → list_all p xs ≡ true → list_all (λ x. p x && q x) xs ≡ true
all_both p q each [] all = refl
all_both p q each (x ∷ xs) all =
    let both = and_parts (p x) (list_all p xs) all in
    and_from (p x && q x) (list_all (λ y. p y && q y) xs) (and_from (p x) (q x) both.0 (each x)) (all_both p q each xs both.1)

-- ---- that no two are the same

pub none_filter : {X : Type 0} (t q : X → Bool) (xs : List X) → list_any t xs ≡ false → list_any t (filter q xs) ≡ false
none_filter t q [] none = refl
none_filter t q (x ∷ xs) none = by (q x) (t x) refl none (none_filter t q xs)
  where
    by : (b c : Bool) → t x ≡ c → (c || list_any t xs) ≡ false → (list_any t xs ≡ false → list_any t (filter q xs) ≡ false) → list_any t (cond b (x ∷ filter q xs) (filter q xs)) ≡ false
    by b true is apart more = absurd (true≢false apart)
    by true false is apart more = ap (λ d. d || list_any t (filter q xs)) is ∙ more apart
    by false false is apart more = more apart

module _ {X : Type 0} (same : X → X → Bool) where
  pub distinct_filter : (q : X → Bool) (xs : List X) → are_distinct same xs ≡ true → are_distinct same (filter q xs) ≡ true
  distinct_filter q [] apart = refl
  distinct_filter q (x ∷ xs) apart =
      let both = and_parts (not (list_any (same x) xs)) (are_distinct same xs) apart in by (q x) both.0 (distinct_filter q xs both.1)
    where
      by : (b : Bool) → not (list_any (same x) xs) ≡ true → are_distinct same (filter q xs) ≡ true → are_distinct same (cond b (x ∷ filter q xs) (filter q xs)) ≡ true
      by true first more =
          and_from (not (list_any (same x) (filter q xs))) (are_distinct same (filter q xs))
          (not_from_false (list_any (same x) (filter q xs)) (none_filter (same x) q xs (not-true (list_any (same x) xs) first))) more
      by false first more = more

  pub distinct_firsts : (xs : List X) → are_distinct same (firsts same xs) ≡ true
  distinct_firsts [] = refl
  distinct_firsts (x ∷ xs) =
      let kept = filter (λ y. not (same x y)) (firsts same xs) in
      and_from (not (list_any (same x) kept)) (are_distinct same kept)
      (not_from_false (list_any (same x) kept) (any-filter_same (same x) (λ y. not (same x y)) false (λ y is. ap not is) (firsts same xs)))
      (distinct_filter (λ y. not (same x y)) (firsts same xs) (distinct_firsts xs))

  pub distinct_append : (xs ys : List X) → are_distinct same xs ≡ true → are_distinct same ys ≡ true → list_all (λ x. not (list_any (same x) ys)) xs ≡ true
      → are_distinct same (xs ++ ys) ≡ true
  distinct_append [] ys one two across = two
  distinct_append (x ∷ xs) ys one two across =
      let first = and_parts (not (list_any (same x) xs)) (are_distinct same xs) one in
      let other = and_parts (not (list_any (same x) ys)) (list_all (λ z. not (list_any (same z) ys)) xs) across in
      and_from (not (list_any (same x) (xs ++ ys))) (are_distinct same (xs ++ ys))
      (not_from_false (list_any (same x) (xs ++ ys))
      (list_any-append (same x) xs ys ∙ (λ i. not-true (list_any (same x) xs) first.0 i || not-true (list_any (same x) ys) other.0 i)))
      (distinct_append xs ys first.1 two other.1)

pub distinct_map : {X Y : Type 0} (same : Y → Y → Bool) (f : X → Y) (xs : List X) → are_distinct (λ x y. same (f x) (f y)) xs ≡ true → are_distinct same (map f xs) ≡ true
distinct_map same f [] apart = refl
distinct_map same f (x ∷ xs) apart =
    let both = and_parts (not (list_any (λ y. same (f x) (f y)) xs)) (are_distinct (λ y z. same (f y) (f z)) xs) apart in
    and_from (not (list_any (same (f x)) (map f xs))) (are_distinct same (map f xs)) (ap not (list_any-map (same (f x)) f xs) ∙ both.0) (distinct_map same f xs both.1)

-- ---- entries made from others

pub filter_map_is : {X Y : Type 0} (p : Y → Bool) (f : X → Y) (xs : List X) → filter p (map f xs) ≡ map f (filter (λ x. p (f x)) xs)
filter_map_is p f [] = refl
filter_map_is p f (x ∷ xs) = by (p (f x)) (filter_map_is p f xs)
  where
    by : (b : Bool) → filter p (map f xs) ≡ map f (filter (λ y. p (f y)) xs)
        → cond b (f x ∷ filter p (map f xs)) (filter p (map f xs)) ≡ map f (cond b (x ∷ filter (λ y. p (f y)) xs) (filter (λ y. p (f y)) xs))
    by true more = ap (λ l. f x ∷ l) more
    by false more = more

pub firsts_map : {X Y : Type 0} (same : Y → Y → Bool) (f : X → Y) (xs : List X) → firsts same (map f xs) ≡ map f (firsts (λ x y. same (f x) (f y)) xs)
firsts_map same f [] = refl
firsts_map same f (x ∷ xs) =
    ap (λ l. f x ∷ filter (λ y. not (same (f x) y)) l) (firsts_map same f xs)
    ∙ ap (λ l. f x ∷ l) (filter_map_is (λ y. not (same (f x) y)) f (firsts (λ y z. same (f y) (f z)) xs))

pub position_map : {X Y : Type 0} (t : Y → Bool) (f : X → Y) (i : ℕ) (xs : List X) → position_from t i (map f xs) ≡ position_from (λ x. t (f x)) i xs
position_map t f i [] = refl
position_map t f i (x ∷ xs) = ap (λ o. cond (t (f x)) (Some i) o) (position_map t f (i + 1) xs)

-- ---- a number is that of an entry

within_by : (o : Option ℕ) (n : ℕ) → 0 < n → ((p : ℕ) → o ≡ Some p → p < n) → unwrap_or o 0 < n
within_by None n some each = some
within_by (Some p) n some each = each p refl

pub place_within : (names : List Text) (name : Text) → 0 < length names → place_in names name < length names
place_within names name some =
    within_by (position_from (λ other. bytes_eq other name) 0 names) (length names) some
    (λ p is. let lt = position_within (λ other. bytes_eq other name) 0 names p is in omega (arith, lt))
