-- The order of sets of differences is one-way, total on sets of numbers from 1 to d, and never puts a heavier set first.
use Rattle.std.proofs.Common.{◌≡◌, ℕ, ◌+◌, ◌<◌, ◌≤◌, zero, suc, Bool, true, false, cond, List, [], ◌∷◌, length, filter, refl, sym, ap, ◌∙◌, arith, ⊎_elim, inl, inr}
use Rattle.std.specs.Prelude.{◌⊎◌, ◌==◌, ◌&&◌, ◌||◌, nat_eq, nat_lt, IsTrue}
use Rattle.std.specs.List.{list_any, range_with_len}
use Rattle.std.specs.Ordering.{nat_cmp}
use Rattle.std.specs.Cmp.{nat_cmp_total}
use Rattle.std.specs.FinSet as set
use Rattle.std.proofs.lemmas.Bool.{true≢false, cases_Bool, cases_order, or_left, or_right, and_from, and_right, eqb-true, eq-eqb}
use Rattle.std.proofs.lemmas.Bool.Decides.{nat_tests}
use Rattle.mre_base.specs.Before.{numbers, weight, is_earlier_list, is_smaller, is_lighter, is_before}
use Rattle.mre_base.proofs.ListOrder.{earlier_trans}

-- ---- an order by a number and then by a test

abbrev lex : ℕ → ℕ → Bool → Bool
lex m n later = cond (nat_eq m n) later (nat_lt m n)

lex_one_way : (m n : ℕ) (later back : Bool) → (later ≡ true → back ≡ true → ⊥) → lex m n later ≡ true → lex n m back ≡ true → ⊥
lex_one_way m n later back apart first second = grind (arith, nat_tests)

lex_tie : (m n : ℕ) (later : Bool) → m ≡ n → later ≡ true → lex m n later ≡ true
lex_tie m n later same e = grind (arith, nat_tests)

lex_first : (m n : ℕ) (later : Bool) → m < n → lex m n later ≡ true
lex_first m n later lt = grind (arith, nat_tests)

lex_le : (m n : ℕ) (later : Bool) → lex m n later ≡ true → m ≤ n
lex_le m n later first = grind (arith, nat_tests)

-- where the tests are total at a tie, so is the order
lex_total : (m n : ℕ) (later back : Bool) (P : Type 0) → P ⊎ ((later ≡ true) ⊎ (back ≡ true)) → P ⊎ ((lex m n later ≡ true) ⊎ (lex n m back ≡ true))
lex_total m n later back P tie =
    ⊎_elim
    (λ same. ⊎_elim (λ p. inl p) (λ either. inr (⊎_elim (λ e. inl (lex_tie m n later same e)) (λ e. inr (lex_tie n m back (sym same) e)) either)) tie)
    (λ apart. inr (⊎_elim (λ lt. inl (lex_first m n later lt)) (λ lt. inr (lex_first n m back lt)) apart))
    (cases_order m n)

lex_at_tie : (x y : ℕ) (t : Bool) → x ≡ y → lex x y t ≡ true → t ≡ true
lex_at_tie x y t same e = grind (arith, nat_tests)

lex_not_after : (x y : ℕ) (t : Bool) → y < x → lex x y t ≡ true → ⊥
lex_not_after x y t gt e = grind (arith, nat_tests)

lex_trans : (m n o : ℕ) (a b c : Bool) → (a ≡ true → b ≡ true → c ≡ true) → lex m n a ≡ true → lex n o b ≡ true → lex m o c ≡ true
lex_trans m n o a b c later first second =
    ⊎_elim
    (λ same. ⊎_elim (λ too. lex_tie m o c (same ∙ too) (later (lex_at_tie m n a same first) (lex_at_tie n o b too second))) (⊎_elim (λ lt. lex_first m o c (omega arith)) (λ gt. absurd (lex_not_after n o b gt second))) (cases_order n o))
    (⊎_elim (λ lt. lex_first m o c (omega (arith, lt, lex_le n o b second))) (λ gt. absurd (lex_not_after m n a gt first)))
    (cases_order m n)

-- ---- lists

earlier_one_way : (xs ys : List ℕ) → is_earlier_list xs ys ≡ true → is_earlier_list ys xs ≡ true → ⊥
earlier_one_way [] [] first second = true≢false (sym first)
earlier_one_way [] (y ∷ ys) first second = true≢false (sym second)
earlier_one_way (x ∷ xs) [] first second = true≢false (sym first)
earlier_one_way (x ∷ xs) (y ∷ ys) first second = lex_one_way x y (is_earlier_list xs ys) (is_earlier_list ys xs) (earlier_one_way xs ys) first second

earlier_total : (xs ys : List ℕ) → (xs ≡ ys) ⊎ ((is_earlier_list xs ys ≡ true) ⊎ (is_earlier_list ys xs ≡ true))
earlier_total [] [] = inl refl
earlier_total [] (y ∷ ys) = inr (inl refl)
earlier_total (x ∷ xs) [] = inr (inr refl)
earlier_total (x ∷ xs) (y ∷ ys) =
    ⊎_elim
    (λ same. ⊎_elim (λ rest. inl (λ i. same i ∷ rest i)) (λ either. inr (⊎_elim (λ e. inl (lex_tie x y (is_earlier_list xs ys) same e)) (λ e. inr (lex_tie y x (is_earlier_list ys xs) (sym same) e)) either)) (earlier_total xs ys))
    (λ apart. inr (⊎_elim (λ lt. inl (lex_first x y (is_earlier_list xs ys) lt)) (λ lt. inr (lex_first y x (is_earlier_list ys xs) lt)) apart))
    (cases_order x y)

module _ (weights : List ℕ) where
  lighter_one_way : (xs ys : List ℕ) → is_lighter weights xs ys ≡ true → is_lighter weights ys xs ≡ true → ⊥
  lighter_one_way xs ys =
      lex_one_way (weight weights xs) (weight weights ys) (is_smaller xs ys) (is_smaller ys xs) (lex_one_way (length xs) (length ys) (is_earlier_list xs ys) (is_earlier_list ys xs) (earlier_one_way xs ys))

  lighter_total : (xs ys : List ℕ) → (xs ≡ ys) ⊎ ((is_lighter weights xs ys ≡ true) ⊎ (is_lighter weights ys xs ≡ true))
  lighter_total xs ys =
      lex_total (weight weights xs) (weight weights ys) (is_smaller xs ys) (is_smaller ys xs) (xs ≡ ys)
      (lex_total (length xs) (length ys) (is_earlier_list xs ys) (is_earlier_list ys xs) (xs ≡ ys) (earlier_total xs ys))

  lighter_trans : (xs ys zs : List ℕ) → is_lighter weights xs ys ≡ true → is_lighter weights ys zs ≡ true → is_lighter weights xs zs ≡ true
  lighter_trans xs ys zs =
      lex_trans (weight weights xs) (weight weights ys) (weight weights zs) (is_smaller xs ys) (is_smaller ys zs) (is_smaller xs zs)
      (lex_trans (length xs) (length ys) (length zs) (is_earlier_list xs ys) (is_earlier_list ys zs) (is_earlier_list xs zs) (earlier_trans xs ys zs))

  -- no two sets are before each other
  pub before_one_way : (a b : set.FinSet nat_cmp) → is_before weights a b ≡ true → is_before weights b a ≡ true → ⊥
  before_one_way a b = lighter_one_way (numbers (length weights) a) (numbers (length weights) b)

  pub before_trans : (a b c : set.FinSet nat_cmp) → is_before weights a b ≡ true → is_before weights b c ≡ true → is_before weights a c ≡ true
  before_trans a b c = lighter_trans (numbers (length weights) a) (numbers (length weights) b) (numbers (length weights) c)

  -- what is before a set isn't heavier
  pub before_no_heavier : (a b : set.FinSet nat_cmp) → is_before weights a b ≡ true → weight weights (numbers (length weights) a) ≤ weight weights (numbers (length weights) b)
  before_no_heavier a b = lex_le (weight weights (numbers (length weights) a)) (weight weights (numbers (length weights) b)) (is_smaller (numbers (length weights) a) (numbers (length weights) b))

-- ---- sets of numbers from 1 to d

abbrev pub Within : ℕ → set.FinSet nat_cmp → Type 0
Within d told = (k : ℕ) → IsTrue (set.contains told k) → (1 ≤ k) × (k ≤ d)

abbrev is_among : ℕ → List ℕ → Bool
is_among q xs = list_any (λ k. k == q) xs

among_cond : (q x : ℕ) (xs : List ℕ) (b : Bool) → is_among q (cond b (x ∷ xs) xs) ≡ cond b ((x == q) || is_among q xs) (is_among q xs)
among_cond q x xs true = refl
among_cond q x xs false = refl

keeps : (px hit rest pq : Bool) → (hit ≡ true → px ≡ pq) → cond px (hit || (rest && pq)) (rest && pq) ≡ ((hit || rest) && pq)
keeps true true rest true same = refl
keeps true true rest false same = absurd (true≢false (same refl))
keeps true false rest pq same = refl
keeps false true rest true same = absurd (true≢false (sym (same refl)))
keeps false true true false same = refl
keeps false true false false same = refl
keeps false false rest pq same = refl

-- a filter keeps a number exactly where it passes
among_filter : (p : ℕ → Bool) (q : ℕ) (xs : List ℕ) → is_among q (filter p xs) ≡ (is_among q xs && p q)
among_filter p q [] = refl
among_filter p q (x ∷ xs) =
    among_cond q x (filter p xs) (p x)
    ∙ ap (λ b. cond (p x) ((x == q) || b) b) (among_filter p q xs)
    ∙ keeps (p x) (x == q) (is_among q xs) (p q) (λ e. ap p (eqb-true x q e))

among_range : (q a n : ℕ) → a ≤ q → q < a + n → is_among q (range_with_len a n) ≡ true
among_range q a zero low high = absurd (omega arith)
among_range q a (suc n) low high =
    ⊎_elim (λ same. or_left (a == q) (is_among q (range_with_len (a + 1) n)) (eq-eqb a q same))
    (⊎_elim (λ lt. or_right (a == q) (is_among q (range_with_len (a + 1) n)) (among_range q (a + 1) n (omega arith) (omega arith))) (λ gt. absurd (omega arith)))
    (cases_order a q)

-- the listed numbers of a set within 1 to d are its numbers
pub contains_numbers : (d : ℕ) (told : set.FinSet nat_cmp) → Within d told → (q : ℕ) → set.contains told q ≡ is_among q (numbers d told)
contains_numbers d told within q =
    ⊎_elim
    (λ there. let bounds = within q there in
    there ∙ sym (among_filter (set.contains told) q (range_with_len 1 d) ∙ and_from (is_among q (range_with_len 1 d)) (set.contains told q) (among_range q 1 d bounds.0 (omega (arith, bounds.1))) there))
    (λ away. away ∙ sym (among_filter (set.contains told) q (range_with_len 1 d) ∙ and_right (is_among q (range_with_len 1 d)) (set.contains told q) away))
    (cases_Bool (set.contains told q))

-- two sets within 1 to d with the same listed numbers are equal
pub same_numbers_same_set : (d : ℕ) (a b : set.FinSet nat_cmp) → Within d a → Within d b → numbers d a ≡ numbers d b → a ≡ b
same_numbers_same_set d a b within_a within_b same =
    set.same_set nat_cmp_total set.nat_cmp-IsAntisymmetric a b (λ q. contains_numbers d a within_a q ∙ ap (is_among q) same ∙ sym (contains_numbers d b within_b q))

-- two sets within 1 to d are equal, or one is before the other
pub before_total : (weights : List ℕ) (a b : set.FinSet nat_cmp) → Within (length weights) a → Within (length weights) b → (a ≡ b) ⊎ ((is_before weights a b ≡ true) ⊎ (is_before weights b a ≡ true))
before_total weights a b within_a within_b =
    ⊎_elim (λ same. inl (same_numbers_same_set (length weights) a b within_a within_b same)) (λ apart. inr apart)
    (lighter_total weights (numbers (length weights) a) (numbers (length weights) b))
