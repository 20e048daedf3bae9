-- Sets of difference numbers as the ascending lists of their numbers, for tests that compute.
use Rattle.std.proofs.Common.{◌≡◌, ℕ, ◌+◌, ◌<◌, ◌≤◌, zero, suc, Bool, true, false, cond, List, [], ◌∷◌, ◌++◌, length, map, refl, sym, ap, subst, ◌∙◌, arith, ⊎_elim}
use Rattle.std.specs.Prelude.{◌||◌, ◌==◌, Contains, filter}
use Rattle.std.specs.Bool.{Decides}
use Rattle.std.specs.List.{list_any, list_all, range_with_len}
use Rattle.std.specs.Ordering.{nat_cmp}
use Rattle.std.specs.Cmp.{nat_cmp_total}
use Rattle.std.specs.FinSet as set
use Rattle.std.proofs.lemmas.Bool.{true≢false, and_from, and_parts, or_cases, or_left, or_right, eqb-true, eq-eqb}
use Rattle.std.proofs.lemmas.List.Elements.{Contains-append_left, Contains-append_right, All-contains}
use Rattle.mre_base.specs.Before.{numbers, is_lighter, is_before}
use Rattle.model_kit.specs.Same.{same_numbers}
use Rattle.model_kit.proofs.Alike.{same_numbers-decides}
use Rattle.model_kit.proofs.Distinct.{all_decides}
use Rattle.model_kit.proofs.StepLemmas.{listed_from_any, any_from_listed}
use Rattle.model_kit.proofs.OrderLemmas.{Within, contains_numbers}
use Rattle.model_examples.specs.Told.{of}
use Rattle.mre_base.proofs.Listed.{map-contains, contains-map}

abbrev pub is_among : List ℕ → ℕ → Bool
is_among xs q = list_any (λ k. k == q) xs

-- ---- lists that are parts of a list, in its order

abbrev pub parts : List ℕ → List (List ℕ)
parts [] = [] ∷ []
parts (x ∷ xs) = map (λ ys. x ∷ ys) (parts xs) ++ parts xs

parts_all : (p : ℕ → Bool) (xs : List ℕ) → Contains (parts xs) (filter p xs)
parts_all p [] = (zero, omega arith, refl)
parts_all p (x ∷ xs) = by (p x) (parts_all p xs)
  where
    by : (b : Bool) → Contains (parts xs) (filter p xs) → Contains (map (λ ys. x ∷ ys) (parts xs) ++ parts xs) (cond b (x ∷ filter p xs) (filter p xs))
    by true at = Contains-append_left (map (λ ys. x ∷ ys) (parts xs)) (parts xs) (x ∷ filter p xs) (map-contains (λ ys. x ∷ ys) (parts xs) (filter p xs) at)
    by false at = Contains-append_right (map (λ ys. x ∷ ys) (parts xs)) (parts xs) (filter p xs) at

-- the lists of numbers of all sets within 1 to d
abbrev pub all_lists : ℕ → List (List ℕ)
all_lists d = parts (range_with_len 1 d)

module _ (test : List ℕ → Bool) where
  pub at_listed : (xs : List (List ℕ)) → list_all test xs ≡ true → (ys : List ℕ) → Contains xs ys → test ys ≡ true
  at_listed xs all ys at = All-contains (λ zs. test zs ≡ true) xs ys ((all_decides test (λ zs. test zs ≡ true) (λ zs. (λ h. h, λ h. h)) xs).0 all) at

  pub all_from : (xs : List (List ℕ)) → ((ys : List ℕ) → Contains xs ys → test ys ≡ true) → list_all test xs ≡ true
  all_from [] each = refl
  all_from (x ∷ xs) each = and_from (test x) (list_all test xs) (each x (zero, omega arith, refl)) (all_from xs (λ ys at. each ys (suc at.0, omega (arith, at.1), at.2)))

  -- a test of all lists is one of all sets
  pub each_set : (d : ℕ) → list_all test (all_lists d) ≡ true → (told : set.FinSet nat_cmp) → test (numbers d told) ≡ true
  each_set d all told = at_listed (all_lists d) all (numbers d told) (parts_all (set.contains told) (range_with_len 1 d))

-- ---- a set is that of its numbers

pub of_contains : (xs : List ℕ) (q : ℕ) → set.contains (of xs) q ≡ is_among xs q
of_contains xs q = set.contains-from_list_nat xs q

pub of_numbers : (d : ℕ) (told : set.FinSet nat_cmp) → Within d told → of (numbers d told) ≡ told
of_numbers d told within =
    set.same_set nat_cmp_total set.nat_cmp-IsAntisymmetric (of (numbers d told)) told (λ q. of_contains (numbers d told) q ∙ sym (contains_numbers d told within q))

-- the numbers of the set are the list itself
abbrev pub is_normal : ℕ → List ℕ → Bool
is_normal d xs = same_numbers (filter (is_among xs) (range_with_len 1 d)) xs

pub numbers_of : (d : ℕ) (xs : List ℕ) → is_normal d xs ≡ true → numbers d (of xs) ≡ xs
numbers_of d xs e =
    let same : set.contains (of xs) ≡ is_among xs = λ i q. of_contains xs q i in
    ap (λ p. filter p (range_with_len 1 d)) same ∙ (same_numbers-decides (filter (is_among xs) (range_with_len 1 d)) xs).0 e

among_listed : (xs : List ℕ) (q : ℕ) → is_among xs q ≡ true → Contains xs q
among_listed [] q e = absurd (true≢false (sym e))
among_listed (x ∷ xs) q e =
    ⊎_elim (λ here. (zero, omega arith, eqb-true x q here)) (λ later. let at = among_listed xs q later in (suc at.0, omega (arith, at.1), at.2)) (or_cases (x == q) (is_among xs q) e)

listed_among : (xs : List ℕ) (q : ℕ) → Contains xs q → is_among xs q ≡ true
listed_among [] q at = absurd (omega (arith, at.1))
listed_among (x ∷ xs) q (zero, lt, is) = or_left (x == q) (is_among xs q) (eq-eqb x q is)
listed_among (x ∷ xs) q (suc k, lt, is) = or_right (x == q) (is_among xs q) (listed_among xs q (k, omega arith, is))

range_bounds : (q a n : ℕ) → is_among (range_with_len a n) q ≡ true → (a ≤ q) × (q < a + n)
range_bounds q a zero e = absurd (true≢false (sym e))
range_bounds q a (suc n) e =
    ⊎_elim (λ here. let same = eqb-true a q here in (omega (arith, same), omega (arith, same))) (λ later. let at = range_bounds q (a + 1) n later in (omega (arith, at.0), omega (arith, at.1))) (or_cases (a == q) (is_among (range_with_len (a + 1) n) q) e)

-- the set of a list that is normal lies within 1 to d
pub of_within : (d : ℕ) (xs : List ℕ) → is_normal d xs ≡ true → Within d (of xs)
of_within d xs e q there =
    let same = (same_numbers-decides (filter (is_among xs) (range_with_len 1 d)) xs).0 e in
    let kept : is_among (filter (is_among xs) (range_with_len 1 d)) q ≡ true = ap (λ ys. is_among ys q) same ∙ sym (of_contains xs q) ∙ there in
    let at = range_bounds q 1 d (kept_in (is_among xs) (range_with_len 1 d) kept) in
    (at.0, omega (arith, at.1))
  where
    kept_in : (p : ℕ → Bool) (ys : List ℕ) → is_among (filter p ys) q ≡ true → is_among ys q ≡ true
    kept_in p [] k = k
    kept_in p (y ∷ ys) k = by (p y) k (kept_in p ys)
      where
        by : (b : Bool) → is_among (cond b (y ∷ filter p ys) (filter p ys)) q ≡ true → (is_among (filter p ys) q ≡ true → is_among ys q ≡ true) → ((y == q) || is_among ys q) ≡ true
        by true k rest = ⊎_elim (λ here. or_left (y == q) (is_among ys q) here) (λ later. or_right (y == q) (is_among ys q) (rest later)) (or_cases (y == q) (is_among (filter p ys) q) k)
        by false k rest = or_right (y == q) (is_among ys q) (rest k)

-- ---- subsets

abbrev pub is_part : List ℕ → List ℕ → Bool
is_part xs ys = list_all (is_among ys) xs

pub part_of : (xs ys : List ℕ) → ((q : ℕ) → is_among xs q ≡ true → is_among ys q ≡ true) → is_part xs ys ≡ true
part_of [] ys each = refl
part_of (x ∷ xs) ys each =
    and_from (is_among ys x) (is_part xs ys) (each x (or_left (x == x) (is_among xs x) (eq-eqb x x refl))) (part_of xs ys (λ q e. each q (or_right (x == q) (is_among xs q) e)))

pub in_whole : (xs ys : List ℕ) → is_part xs ys ≡ true → (q : ℕ) → is_among xs q ≡ true → is_among ys q ≡ true
in_whole [] ys e q there = absurd (true≢false (sym there))
in_whole (x ∷ xs) ys e q there =
    let parts = and_parts (is_among ys x) (is_part xs ys) e in
    ⊎_elim (λ here. ap (is_among ys) (sym (eqb-true x q here)) ∙ parts.0) (λ later. in_whole xs ys parts.1 q later) (or_cases (x == q) (is_among xs q) there)

-- ---- sets that are given by a list of lists

abbrev pub is_listed : List (List ℕ) → List ℕ → Bool
is_listed lists xs = list_any (same_numbers xs) lists

-- the set is one of those of the lists exactly where its numbers are listed
pub listed_set : (d : ℕ) (lists : List (List ℕ)) → list_all (is_normal d) lists ≡ true → (told : set.FinSet nat_cmp) → Within d told → Decides (is_listed lists (numbers d told)) (Contains (map of lists) told)
listed_set d lists normal told within = (
  λ e. subst (Contains (map of lists)) (of_numbers d told within) (map-contains of lists (numbers d told) (listed_from_any same_numbers same_numbers-decides (numbers d told) lists e)),
  λ at.
      let one = contains-map of lists told at in
      let same : numbers d told ≡ one.0 = ap (numbers d) (sym one.2) ∙ numbers_of d one.0 (at_listed (is_normal d) lists normal one.0 one.1) in
      any_from_listed same_numbers same_numbers-decides (numbers d told) lists (subst (Contains lists) (sym same) one.1),
)

-- the order of sets is that of their lists
pub before_by : (weights xs ys : List ℕ) → is_normal (length weights) xs ≡ true → is_normal (length weights) ys ≡ true → is_before weights (of xs) (of ys) ≡ is_lighter weights xs ys
before_by weights xs ys one two = λ i. is_lighter weights (numbers_of (length weights) xs one i) (numbers_of (length weights) ys two i)
