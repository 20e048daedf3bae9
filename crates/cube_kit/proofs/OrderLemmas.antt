-- The order of sets, level by level: first by a number, and by a test where the numbers are equal.
use Rattle.std.proofs.Common.{◌≡◌, ℕ, zero, suc, ◌+◌, ◌-◌, ◌≤◌, ◌<◌, Bool, true, false, ◌&&◌, cond, List, [], ◌∷◌, length, filter, take, replicate, slice_index, nat_eq, nat_lt, refl, sym, ap, ◌∙◌, arith, ◌⊎◌, inl, inr}
use Rattle.std.specs.List.{range_with_len, list_any}
use Rattle.std.specs.Cmp.{nat_cmp_total}
use Rattle.std.specs.FinSet as set
use Rattle.std.specs.FinSet.{same_set, is_subset-contains, nat_cmp-IsAntisymmetric}
use Rattle.std.proofs.lemmas.Bool.{cases_order, false≢true}
use Rattle.std.proofs.lemmas.Bool.Decides.{nat_tests}
use Rattle.std.proofs.lemmas.List.{get_or-take, length-take, get_or-replicate, length-replicate}
use Rattle.std.proofs.lemmas.List.Sums.{sum_by-cons}
use Rattle.mre_base.specs.Before.{numbers, count_of, weight, is_earlier_list, is_smaller, is_lighter, is_before}
use Rattle.mre_base.proofs.ListOrder.{by_number, number_trans, earlier_trans, filter-shorter}
use Rattle.cube_kit.specs.Cubes.{Told, IsWithin}
use Rattle.cube_kit.specs.Laws.{OrderLaw}
use Rattle.cube_kit.specs.Weighing.{AreWeights}
use Rattle.cube_kit.proofs.RangeLemmas.{is_in_range, any-filter-range, filter-range-less}

number_one_way : (n m : ℕ) (r s : Bool) → (r ≡ true → s ≡ false) → by_number n m r ≡ true → by_number m n s ≡ false
number_one_way n m r s less h = grind (arith, nat_tests)

number_less : (n m : ℕ) (r : Bool) → n < m → by_number n m r ≡ true
number_less n m r lt = grind (arith, nat_tests)

number_same : (n m : ℕ) (r : Bool) → n ≡ m → r ≡ true → by_number n m r ≡ true
number_same n m r e h = grind (arith, nat_tests)

-- one of two things is before the other, or they are equal
abbrev IsTotal : {A : Type 0} → (A → A → Bool) → A → A → Type 0
IsTotal before x y = (x ≡ y) ⊎ (before x y ≡ true) ⊎ (before y x ≡ true)

number_total : {A : Type 0} (f : A → ℕ) (before : A → A → Bool) (x y : A) → IsTotal before x y → IsTotal (λ u v. by_number (f u) (f v) (before u v)) x y
number_total f before x y rest =
    elim (cases_order (f x) (f y)) [
      | inl same ↦ elim rest [
        | inl e ↦ inl e
        | inr o ↦ inr (elim o [ inl b ↦ inl (number_same _ _ _ same b) | inr b ↦ inr (number_same _ _ _ (sym same) b) ])
      ]
      | inr o ↦ inr (elim o [ inl lt ↦ inl (number_less _ _ _ lt) | inr lt ↦ inr (number_less _ _ _ lt) ])
    ]

earlier_one_way : (xs ys : List ℕ) → is_earlier_list xs ys ≡ true → is_earlier_list ys xs ≡ false
earlier_one_way [] [] h = refl
earlier_one_way [] (y ∷ ys) h = refl
earlier_one_way (x ∷ xs) [] h = absurd (false≢true h)
earlier_one_way (x ∷ xs) (y ∷ ys) h = number_one_way x y (is_earlier_list xs ys) (is_earlier_list ys xs) (earlier_one_way xs ys) h

earlier_total : (xs ys : List ℕ) → IsTotal is_earlier_list xs ys
earlier_total [] [] = inl refl
earlier_total [] (y ∷ ys) = inr (inl refl)
earlier_total (x ∷ xs) [] = inr (inr refl)
earlier_total (x ∷ xs) (y ∷ ys) =
    elim (cases_order x y) [
      | inl same ↦ elim (earlier_total xs ys) [
        | inl e ↦ inl (λ i. same i ∷ e i)
        | inr o ↦ inr (elim o [ inl b ↦ inl (number_same x y _ same b) | inr b ↦ inr (number_same y x _ (sym same) b) ])
      ]
      | inr o ↦ inr (elim o [ inl lt ↦ inl (number_less x y _ lt) | inr lt ↦ inr (number_less y x _ lt) ])
    ]

lighter_one_way : (ws xs ys : List ℕ) → is_lighter ws xs ys ≡ true → is_lighter ws ys xs ≡ false
lighter_one_way ws xs ys =
    number_one_way (weight ws xs) (weight ws ys) (is_smaller xs ys) (is_smaller ys xs)
    (number_one_way (length xs) (length ys) (is_earlier_list xs ys) (is_earlier_list ys xs) (earlier_one_way xs ys))

lighter_trans : (ws xs ys zs : List ℕ) → is_lighter ws xs ys ≡ true → is_lighter ws ys zs ≡ true → is_lighter ws xs zs ≡ true
lighter_trans ws xs ys zs =
    number_trans (weight ws xs) (weight ws ys) (weight ws zs) (is_smaller xs ys) (is_smaller ys zs) (is_smaller xs zs)
    (number_trans (length xs) (length ys) (length zs) (is_earlier_list xs ys) (is_earlier_list ys zs) (is_earlier_list xs zs) (earlier_trans xs ys zs))

lighter_total : (ws xs ys : List ℕ) → IsTotal (is_lighter ws) xs ys
lighter_total ws xs ys = number_total (weight ws) is_smaller xs ys (number_total length is_earlier_list xs ys (earlier_total xs ys))

-- a set within 1 to d has exactly the numbers of its list
contains-numbers : (d : ℕ) (s : Told) (k : ℕ) → IsWithin d s → set.contains s k ≡ list_any (λ y. nat_eq y k) (numbers d s)
contains-numbers d s k within = by_range (set.contains s k) (within k) ∙ sym (any-filter-range (set.contains s) 1 d k) where
  by_range : (b : Bool) → (b ≡ true → (1 ≤ k) × (k ≤ d)) → b ≡ (is_in_range 1 d k && b)
  by_range b h = grind (arith, nat_tests)

-- sets within 1 to d with the same list are equal
pub same_numbers : (d : ℕ) (a b : Told) → IsWithin d a → IsWithin d b → numbers d a ≡ numbers d b → a ≡ b
same_numbers d a b wa wb same =
    same_set nat_cmp_total nat_cmp-IsAntisymmetric a b
    (λ k. contains-numbers d a k wa ∙ ap (list_any (λ y. nat_eq y k)) same ∙ sym (contains-numbers d b k wb))

pub before_one_way : (ws : List ℕ) (a b : Told) → is_before ws a b ≡ true → is_before ws b a ≡ false
before_one_way ws a b = lighter_one_way ws (numbers (length ws) a) (numbers (length ws) b)

pub before_trans : (ws : List ℕ) (a b c : Told) → is_before ws a b ≡ true → is_before ws b c ≡ true → is_before ws a c ≡ true
before_trans ws a b c = lighter_trans ws (numbers (length ws) a) (numbers (length ws) b) (numbers (length ws) c)

pub before_total : (ws : List ℕ) (a b : Told) → IsWithin (length ws) a → IsWithin (length ws) b → IsTotal (is_before ws) a b
before_total ws a b wa wb =
    elim (lighter_total ws (numbers (length ws) a) (numbers (length ws) b)) [
      | inl same ↦ inl (same_numbers (length ws) a b wa wb same)
      | inr o ↦ inr o
    ]

within_less : (d : ℕ) (a b : Told) → IsWithin d b → set.is_subset a b ≡ true → IsWithin d a
within_less d a b wb sub k there = wb k (is_subset-contains nat_cmp_total a b sub k there)

pub before_greater : (ws : List ℕ) (a b : Told) → AreWeights ws → IsWithin (length ws) b → set.is_subset a b ≡ true → (a ≡ b) ⊎ (is_before ws a b ≡ true)
before_greater ws a b heavy wb sub =
    elim (filter-range-less (λ k. slice_index ws (k - 1)) (set.contains a) (set.contains b) 1 (length ws)
    (λ k there. is_subset-contains nat_cmp_total a b sub k there) (λ k low high. (heavy k low (omega arith)).0)) [
      | inl same ↦ inl (same_numbers (length ws) a b (within_less (length ws) a b wb sub) wb same)
      | inr lt ↦ inr (number_less _ _ _ lt)
    ]

-- the list of a set within 1 to d is the same up to any greater number
pub numbers-more : (d e : ℕ) (s : Told) → d ≤ e → IsWithin d s → numbers e s ≡ numbers d s
numbers-more d e s le within = filter-shorter (set.contains s) 1 d e le (λ k low. out k low (set.contains s k) (within k)) where
  out : (k : ℕ) → 1 + d ≤ k → (b : Bool) → (b ≡ true → (1 ≤ k) × (k ≤ d)) → b ≡ false
  out k low b h = grind (arith, nat_tests)

-- the weights of numbers from 1 to d don't depend on weights beyond d
weight-take : (ws : List ℕ) (d : ℕ) (p : ℕ → Bool) (a n : ℕ) → 1 ≤ a → a + n ≤ d + 1 → weight (take d ws) (filter p (range_with_len a n)) ≡ weight ws (filter p (range_with_len a n))
weight-take ws d p a zero low high = refl
weight-take ws d p a (suc n) low high = step (p a) (weight-take ws d p (a + 1) n (omega arith) (omega arith)) (get_or-take d ws (a - 1) 0 (omega arith)) where
  both : (x x' r r' s s' : ℕ) → s ≡ x + r → s' ≡ x' + r' → x ≡ x' → r ≡ r' → s ≡ s'
  both x x' r r' s s' e e' ex er = omega arith

  step : (b : Bool) → weight (take d ws) (filter p (range_with_len (a + 1) n)) ≡ weight ws (filter p (range_with_len (a + 1) n)) → slice_index (take d ws) (a - 1) ≡ slice_index ws (a - 1)
      → weight (take d ws) (cond b (a ∷ filter p (range_with_len (a + 1) n)) (filter p (range_with_len (a + 1) n))) ≡ weight ws (cond b (a ∷ filter p (range_with_len (a + 1) n)) (filter p (range_with_len (a + 1) n)))
  step true rest same =
      both (slice_index (take d ws) (a - 1)) (slice_index ws (a - 1)) (weight (take d ws) (filter p (range_with_len (a + 1) n))) (weight ws (filter p (range_with_len (a + 1) n))) _ _
      (sum_by-cons (λ k. slice_index (take d ws) (k - 1)) a (filter p (range_with_len (a + 1) n))) (sum_by-cons (λ k. slice_index ws (k - 1)) a (filter p (range_with_len (a + 1) n))) same rest
  step false rest same = rest

shorter : (ws : List ℕ) (d : ℕ) → d ≤ length ws → length (take d ws) ≡ d
shorter ws d le = omega (arith, length-take d ws)

numbers-narrow : (ws : List ℕ) (d : ℕ) (s : Told) → d ≤ length ws → IsWithin d s → numbers (length (take d ws)) s ≡ numbers (length ws) s
numbers-narrow ws d s le within = ap (λ k. numbers k s) (shorter ws d le) ∙ sym (numbers-more d (length ws) s le within)

pub weight-narrow : (ws : List ℕ) (d : ℕ) (s : Told) → d ≤ length ws → IsWithin d s → weight (take d ws) (numbers d s) ≡ weight ws (numbers (length ws) s)
weight-narrow ws d s le within =
    weight-take ws d (set.contains s) 1 d (omega arith) (omega arith) ∙ ap (weight ws) (sym (numbers-more d (length ws) s le within))

weight-shorter : (ws : List ℕ) (d : ℕ) (s : Told) → d ≤ length ws → IsWithin d s → weight (take d ws) (numbers (length (take d ws)) s) ≡ weight ws (numbers (length ws) s)
weight-shorter ws d s le within = ap (λ k. weight (take d ws) (numbers k s)) (shorter ws d le) ∙ weight-narrow ws d s le within

pub before_narrow : (ws : List ℕ) (d : ℕ) (a b : Told) → d ≤ length ws → IsWithin d a → IsWithin d b → is_before (take d ws) a b ≡ is_before ws a b
before_narrow ws d a b le wa wb =
    λ i. by_number (weight-shorter ws d a le wa i) (weight-shorter ws d b le wb i) (is_smaller (numbers-narrow ws d a le wa i) (numbers-narrow ws d b le wb i))

-- ---- the order where every weight is 1
-- the weight of numbers from 1 to d is then their count
weight-ones : (d : ℕ) (p : ℕ → Bool) (a n : ℕ) → 1 ≤ a → a + n ≤ d + 1 → weight (replicate d 1) (filter p (range_with_len a n)) ≡ length (filter p (range_with_len a n))
weight-ones d p a zero low high = refl
weight-ones d p a (suc n) low high = step (p a) (weight-ones d p (a + 1) n (omega arith) (omega arith)) (get_or-replicate d (a - 1) 1 0 (omega arith)) where
  one_more : (x r s l : ℕ) → s ≡ x + r → x ≡ 1 → r ≡ l → s ≡ suc l
  one_more x r s l e ex er = omega arith

  step : (b : Bool) → weight (replicate d 1) (filter p (range_with_len (a + 1) n)) ≡ length (filter p (range_with_len (a + 1) n)) → slice_index (replicate d 1) (a - 1) ≡ 1
      → weight (replicate d 1) (cond b (a ∷ filter p (range_with_len (a + 1) n)) (filter p (range_with_len (a + 1) n))) ≡ length (cond b (a ∷ filter p (range_with_len (a + 1) n)) (filter p (range_with_len (a + 1) n)))
  step true rest one =
      one_more (slice_index (replicate d 1) (a - 1)) (weight (replicate d 1) (filter p (range_with_len (a + 1) n))) _ _
      (sum_by-cons (λ k. slice_index (replicate d 1) (k - 1)) a (filter p (range_with_len (a + 1) n))) one rest
  step false rest one = rest

number_twice : (n m : ℕ) (r : Bool) → by_number n m (by_number n m r) ≡ by_number n m r
number_twice n m r = grind (arith, nat_tests)

pub before_even : (d : ℕ) (a b : Told) → is_before (replicate d 1) a b ≡ is_smaller (numbers d a) (numbers d b)
before_even d a b =
    ap (λ k. is_lighter (replicate d 1) (numbers k a) (numbers k b)) (length-replicate d 1)
    ∙ (λ i. by_number (weight-ones d (set.contains a) 1 d (omega arith) (omega arith) i) (weight-ones d (set.contains b) 1 d (omega arith) (omega arith) i) (is_smaller (numbers d a) (numbers d b)))
    ∙ number_twice (length (numbers d a)) (length (numbers d b)) (is_earlier_list (numbers d a) (numbers d b))

-- ---- the order by one level
number_apart : (n m : ℕ) (r : Bool) → (n ≡ m → ⊥) → nat_lt n m ≡ by_number n m r
number_apart n m r apart = grind (arith, nat_tests)

number_then : (n m : ℕ) (r : Bool) → n ≡ m → r ≡ by_number n m r
number_then n m r same = grind (arith, nat_tests)

pub before_by_weight : (ws : List ℕ) (a b : Told) (v w : ℕ) → v ≡ weight ws (numbers (length ws) a) → w ≡ weight ws (numbers (length ws) b) → (v ≡ w → ⊥) → nat_lt v w ≡ is_before ws a b
before_by_weight ws a b v w ev ew apart =
    number_apart v w (is_smaller (numbers (length ws) a) (numbers (length ws) b)) apart
    ∙ (λ i. by_number (ev i) (ew i) (is_smaller (numbers (length ws) a) (numbers (length ws) b)))

pub before_by_size : (ws : List ℕ) (a b : Told) (v w m n : ℕ) → v ≡ weight ws (numbers (length ws) a) → w ≡ weight ws (numbers (length ws) b) → v ≡ w
    → m ≡ length (numbers (length ws) a) → n ≡ length (numbers (length ws) b) → (m ≡ n → ⊥) → nat_lt m n ≡ is_before ws a b
before_by_size ws a b v w m n ev ew same em en apart =
    number_apart m n (is_earlier_list (numbers (length ws) a) (numbers (length ws) b)) apart
    ∙ (λ i. by_number (em i) (en i) (is_earlier_list (numbers (length ws) a) (numbers (length ws) b)))
    ∙ number_then v w (is_smaller (numbers (length ws) a) (numbers (length ws) b)) same
    ∙ (λ i. by_number (ev i) (ew i) (is_smaller (numbers (length ws) a) (numbers (length ws) b)))

pub before_by_list : (ws : List ℕ) (a b : Told) (d : ℕ) (r : Bool) → weight ws (numbers (length ws) a) ≡ weight ws (numbers (length ws) b)
    → length (numbers (length ws) a) ≡ length (numbers (length ws) b) → d ≡ length ws → r ≡ is_earlier_list (numbers d a) (numbers d b) → r ≡ is_before ws a b
before_by_list ws a b d r same as_many e is =
    is ∙ ap (λ k. is_earlier_list (numbers k a) (numbers k b)) e
    ∙ number_then _ _ _ as_many ∙ number_then _ _ _ same

-- the number of differences from 1 to 256 in a set
pub count-numbers : (ws : List ℕ) (s : Told) → length ws ≡ 256 → count_of s ≡ length (numbers (length ws) s)
unfolding count_of
count-numbers ws s e = ap (λ k. length (numbers k s)) (sym e)

pub order_law : OrderLaw
order_law = record { one_way = before_one_way; trans = before_trans; total = before_total; greater = before_greater; narrow = before_narrow; even = before_even }
