-- The order of ascending lists, where both lists are the numbers of a range that pass a test: the lowest number at which the tests differ decides.
use Rattle.std.proofs.Common.{◌≡◌, ◌↔◌, ℕ, zero, suc, ◌+◌, ◌-◌, ◌<◌, ◌≤◌, Bool, true, false, not, ◌||◌, List, [], ◌∷◌, ◌++◌, length, filter, nat_eq, nat_lt, cond, if◌then◌else◌, refl, sym, ap, ◌∙◌, arith}
use Rattle.std.proofs.lemmas.Bool.{eq-eqb, eqb-true, eqb-false, ne_eqb, lt-ltb, le-ltb, true≢false, false≢true}
use Rattle.std.proofs.lemmas.Bool.Decides.{nat_tests}
use Rattle.std.proofs.lemmas.List.Elements.{filter-append}
use Rattle.std.specs.List.{range_with_len, list_any}
use Rattle.mre_base.specs.Before.{is_earlier_list}
use Rattle.mre_base.proofs.Tests.{same_test}

-- a range, cut at a number
pub range-cut : (s k n : ℕ) → k < n → range_with_len s n ≡ range_with_len s k ++ (s + k) ∷ range_with_len (s + k + 1) (n - (k + 1))
range-cut s k zero h = absurd (omega arith)
range-cut s zero (suc n) h =
    let a : s + 0 ≡ s = omega arith in
    let b : suc n - (0 + 1) ≡ n = omega arith in
    rw (a, b) refl
range-cut s (suc k) (suc n) h =
    let a : s + 1 + k ≡ s + suc k = omega arith in
    let b : n - (k + 1) ≡ suc n - (suc k + 1) = omega arith in
    ap (λ r. s ∷ r) (range-cut (s + 1) k n (omega arith)) ∙ rw (a, b) refl

-- tests that agree on a range let the same numbers pass
pub filter-agree : (p q : ℕ → Bool) (s n : ℕ) → ((k : ℕ) → s ≤ k → k < s + n → p k ≡ q k) → filter p (range_with_len s n) ≡ filter q (range_with_len s n)
filter-agree p q s zero h = refl
filter-agree p q s (suc n) h = rw (h s (omega arith) (omega arith), filter-agree p q (s + 1) n (λ k l m. h k (omega arith) (omega arith))) refl

-- numbers that fail at the end of a range make no difference
pub filter-shorter : (p : ℕ → Bool) (s n m : ℕ) → n ≤ m → ((k : ℕ) → s + n ≤ k → p k ≡ false) → filter p (range_with_len s m) ≡ filter p (range_with_len s n)
filter-shorter p s zero zero h none = refl
filter-shorter p s zero (suc m) h none = rw (none s (omega arith)) (filter-shorter p (s + 1) zero m (omega arith) (λ k l. none k (omega arith)))
filter-shorter p s (suc n) zero h none = absurd (omega arith)
filter-shorter p s (suc n) (suc m) h none = rw (filter-shorter p (s + 1) n m (omega arith) (λ k l. none k (omega arith))) refl

-- a common prefix makes no difference
pub is_earlier_list-front : (xs ys zs : List ℕ) → is_earlier_list (xs ++ ys) (xs ++ zs) ≡ is_earlier_list ys zs
is_earlier_list-front [] ys zs = refl
is_earlier_list-front (x ∷ xs) ys zs = rw (eq-eqb x x refl) (is_earlier_list-front xs ys zs)

pub is_earlier_list-itself : (xs : List ℕ) → is_earlier_list xs xs ≡ false
is_earlier_list-itself [] = refl
is_earlier_list-itself (x ∷ xs) = rw (eq-eqb x x refl) (is_earlier_list-itself xs)

-- ordered by a number, and by a test where the numbers are equal
abbrev pub by_number : ℕ → ℕ → Bool → Bool
by_number n m r = cond (nat_eq n m) r (nat_lt n m)

pub number_trans : (n m k : ℕ) (r s t : Bool) → (r ≡ true → s ≡ true → t ≡ true) → by_number n m r ≡ true → by_number m k s ≡ true → by_number n k t ≡ true
number_trans n m k r s t less h i = grind (arith, nat_tests)

pub earlier_trans : (xs ys zs : List ℕ) → is_earlier_list xs ys ≡ true → is_earlier_list ys zs ≡ true → is_earlier_list xs zs ≡ true
earlier_trans [] [] zs h i = i
earlier_trans [] (y ∷ ys) [] h i = absurd (false≢true i)
earlier_trans [] (y ∷ ys) (z ∷ zs) h i = refl
earlier_trans (x ∷ xs) [] zs h i = absurd (false≢true h)
earlier_trans (x ∷ xs) (y ∷ ys) [] h i = absurd (false≢true i)
earlier_trans (x ∷ xs) (y ∷ ys) (z ∷ zs) h i =
    number_trans x y z (is_earlier_list xs ys) (is_earlier_list ys zs) (is_earlier_list xs zs) (earlier_trans xs ys zs) h i

-- a list with a smaller first number, compared with the numbers of a later range that pass
number_first : (q : ℕ → Bool) (i : ℕ) (xs : List ℕ) (s n : ℕ) → i < s → is_earlier_list (i ∷ xs) (filter q (range_with_len s n)) ≡ list_any q (range_with_len s n)
number_first q i xs s zero h = refl
number_first q i xs s (suc n) h =
    elim (q s) as (λ b. is_earlier_list (i ∷ xs) (if b then s ∷ filter q (range_with_len (s + 1) n) else filter q (range_with_len (s + 1) n)) ≡ (b || list_any q (range_with_len (s + 1) n))) [
      | true ↦ rw (ne_eqb i s (λ e. absurd (omega arith)), lt-ltb i s h) refl
      | false ↦ number_first q i xs (s + 1) n (omega arith)
    ]

number_second : (q : ℕ → Bool) (i : ℕ) (xs : List ℕ) (s n : ℕ) → i < s → is_earlier_list (filter q (range_with_len s n)) (i ∷ xs) ≡ not (list_any q (range_with_len s n))
number_second q i xs s zero h = refl
number_second q i xs s (suc n) h =
    elim (q s) as (λ b. is_earlier_list (if b then s ∷ filter q (range_with_len (s + 1) n) else filter q (range_with_len (s + 1) n)) (i ∷ xs) ≡ not (b || list_any q (range_with_len (s + 1) n))) [
      | true ↦ rw (ne_eqb s i (λ e. absurd (omega arith)), le-ltb s i (omega arith)) refl
      | false ↦ number_second q i xs (s + 1) n (omega arith)
    ]

-- the numbers of a range that pass, cut at a number
cut_at : (p : ℕ → Bool) (k n : ℕ) → k < n → filter p (range_with_len 0 n) ≡ filter p (range_with_len 0 k) ++ filter p (k ∷ range_with_len (k + 1) (n - (k + 1)))
cut_at p k n h =
    let z : 0 + k ≡ k = omega arith in
    ap (filter p) (range-cut 0 k n h) ∙ filter-append p (range_with_len 0 k) ((0 + k) ∷ range_with_len (0 + k + 1) (n - (k + 1))) ∙ rw z refl

module _ (p q : ℕ → Bool) (k n : ℕ) (within : k < n) (below : (j : ℕ) → j < k → p j ≡ q j) where
  front : is_earlier_list (filter p (range_with_len 0 n)) (filter q (range_with_len 0 n)) ≡ is_earlier_list (filter p (k ∷ range_with_len (k + 1) (n - (k + 1)))) (filter q (k ∷ range_with_len (k + 1) (n - (k + 1))))
  front =
      rw (cut_at p k n within, cut_at q k n within, filter-agree p q 0 k (λ j l m. below j (omega arith)))
      (is_earlier_list-front (filter q (range_with_len 0 k)) _ _)

  -- the first test lets the number pass: its list is the earlier one if the other goes on
  pub first_has : p k ≡ true → q k ≡ false → is_earlier_list (filter p (range_with_len 0 n)) (filter q (range_with_len 0 n)) ≡ list_any q (range_with_len (k + 1) (n - (k + 1)))
  first_has a b = front ∙ rw (a, b) (number_first q k (filter p (range_with_len (k + 1) (n - (k + 1)))) (k + 1) (n - (k + 1)) (omega arith))

  -- the second test lets it pass
  pub second_has : p k ≡ false → q k ≡ true → is_earlier_list (filter p (range_with_len 0 n)) (filter q (range_with_len 0 n)) ≡ not (list_any p (range_with_len (k + 1) (n - (k + 1))))
  second_has a b = front ∙ rw (a, b) (number_second p k (filter q (range_with_len (k + 1) (n - (k + 1)))) (k + 1) (n - (k + 1)) (omega arith))

-- ---- some number of a range passes
pub list_any-range : (p : ℕ → Bool) (s n j : ℕ) → s ≤ j → j < s + n → p j ≡ true → list_any p (range_with_len s n) ≡ true
list_any-range p s zero j l m h = absurd (omega arith)
list_any-range p s (suc n) j l m h =
    elim (p s) as (λ b. p s ≡ b → (b || list_any p (range_with_len (s + 1) n)) ≡ true) [
      | true ↦ λ e. refl
      | false ↦ λ e. list_any-range p (s + 1) n j (later e) (omega arith) h
    ] refl
  where
    later : p s ≡ false → s + 1 ≤ j
    later e = elim (nat_eq j s) as (λ b. nat_eq j s ≡ b → s + 1 ≤ j) [
      | true ↦ λ same. absurd (true≢false (sym h ∙ ap p (eqb-true j s same) ∙ e))
      | false ↦ λ other. let apart = eqb-false j s other in omega arith
    ] refl

pub range-list_any : (p : ℕ → Bool) (s n : ℕ) → list_any p (range_with_len s n) ≡ true → (j : ℕ) × (s ≤ j) × (j < s + n) × (p j ≡ true)
range-list_any p s zero h = absurd (false≢true h)
range-list_any p s (suc n) h =
    elim (p s) as (λ b. p s ≡ b → (b || list_any p (range_with_len (s + 1) n)) ≡ true → (j : ℕ) × (s ≤ j) × (j < s + suc n) × (p j ≡ true)) [
      | true ↦ λ e _. (s, omega arith, omega arith, e)
      | false ↦ λ e some. let rest = range-list_any p (s + 1) n some in (rest.0, omega (arith, rest.1), omega (arith, rest.2), rest.3)
    ] refl h

-- where k fails, some number from k on passes exactly if some number after k does
pub list_any-after : (p : ℕ → Bool) (k n : ℕ) (b : Bool) → k < n → p k ≡ false → (b ≡ true ↔ ((j : ℕ) × (k ≤ j) × (j < n) × (p j ≡ true))) → b ≡ list_any p (range_with_len (k + 1) (n - (k + 1)))
list_any-after p k n b within failed says =
    same_test b (list_any p (range_with_len (k + 1) (n - (k + 1))))
    (λ e. let found = says.0 e in list_any-range p (k + 1) (n - (k + 1)) found.0 (beyond found.0 found.1 found.3) (let h : found.0 < n = found.2 in omega arith) found.3)
    (λ e. let found = range-list_any p (k + 1) (n - (k + 1)) e in says.1 (found.0, omega (arith, found.1), omega (arith, found.2), found.3))
  where
    beyond : (j : ℕ) → k ≤ j → p j ≡ true → k + 1 ≤ j
    beyond j l h =
        elim (nat_eq j k) as (λ b. nat_eq j k ≡ b → k + 1 ≤ j) [
          | true ↦ λ e. absurd (true≢false (sym h ∙ ap p (eqb-true j k e) ∙ failed))
          | false ↦ λ e. let apart = eqb-false j k e in omega arith
        ] refl

-- ---- the number of numbers of a range that pass
-- a range and the next one
pub range-append : (s n m : ℕ) → range_with_len s (n + m) ≡ range_with_len s n ++ range_with_len (s + n) m
range-append s zero m =
    let a : 0 + m ≡ m = omega arith in
    let b : s + 0 ≡ s = omega arith in
    rw (a, b) refl
range-append s (suc n) m =
    let a : suc n + m ≡ suc (n + m) = omega arith in
    let b : s + 1 + n ≡ s + suc n = omega arith in
    rw a (ap (λ r. s ∷ r) (range-append (s + 1) n m) ∙ rw b refl)

-- a test of numbers, and the same test of their predecessors
pub filter-shifted : (p q : ℕ → Bool) (s n : ℕ) → ((k : ℕ) → p (suc k) ≡ q k) → length (filter p (range_with_len (suc s) n)) ≡ length (filter q (range_with_len s n))
filter-shifted p q s zero h = refl
filter-shifted p q s (suc n) h =
    let a : suc s + 1 ≡ suc (s + 1) = omega arith in
    rw (h s, a) (elim (q s) as (λ b. length (if b then suc s ∷ filter p (range_with_len (suc (s + 1)) n) else filter p (range_with_len (suc (s + 1)) n)) ≡ length (if b then s ∷ filter q (range_with_len (s + 1) n) else filter q (range_with_len (s + 1) n))) [
      | true ↦ ap suc (filter-shifted p q (s + 1) n h)
      | false ↦ filter-shifted p q (s + 1) n h
    ])
