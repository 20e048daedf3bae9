-- Loops over the numbers from 1 on: the rest of a filtered range, from each number on.
use Rattle.std.proofs.Common.{◌≡◌, ℕ, zero, suc, ◌+◌, ◌-◌, ◌*◌, ◌≤◌, ◌<◌, Bool, true, false, not, cond, List, [], ◌∷◌, length, filter, slice_index, nat_lt, Fits, w64, refl, sym, ap, ◌∙◌, arith, subst}
use Rattle.std.specs.Bool.{beq}
use Rattle.std.specs.List.{range_with_len}
use Rattle.std.proofs.lemmas.Bool.{lt-ltb, le-ltb, eq-eqb, ne_eqb}
use Rattle.std.proofs.lemmas.List.Sums.{sum_by-cons}
use Rattle.mre_base.specs.Before.{weight, is_earlier_list}

-- ---- the rest of a range
pub rest_of : (n place : ℕ) → place < n → n - place ≡ suc (n - (place + 1))
rest_of n place lt = omega arith

pub none_of : (n place : ℕ) → n ≤ place → n - place ≡ 0
none_of n place le = omega arith

-- ---- a sum of weights
pub fits_some : (sum w place : ℕ) → sum ≤ place * 1000000 → place < 257 → w ≤ 1000000 → Fits w64 (sum + w)
fits_some sum w place low few light = omega arith

pub low_some : (new sum w place : ℕ) → new ≡ sum + w → sum ≤ place * 1000000 → w ≤ 1000000 → new ≤ (place + 1) * 1000000
low_some new sum w place is low light = omega arith

pub low_none : (new sum place : ℕ) → new ≡ sum → sum ≤ place * 1000000 → new ≤ (place + 1) * 1000000
low_none new sum place is low = omega arith

module _ (ws : List ℕ) (p : ℕ → Bool) where
  -- the sum of the remaining weights
  abbrev pub weight_from : ℕ → ℕ → ℕ
  weight_from a n = weight ws (filter p (range_with_len a n))

  weight_here : (a n : ℕ) (b : Bool) → p a ≡ b → weight_from a (suc n) ≡ cond b (slice_index ws (a - 1)) 0 + weight_from (a + 1) n
  weight_here a n true e =
      ap (λ b. weight ws (cond b (a ∷ filter p (range_with_len (a + 1) n)) (filter p (range_with_len (a + 1) n)))) e ∙ sum_by-cons (λ k. slice_index ws (k - 1)) a (filter p (range_with_len (a + 1) n))
  weight_here a n false e =
      ap (λ b. weight ws (cond b (a ∷ filter p (range_with_len (a + 1) n)) (filter p (range_with_len (a + 1) n)))) e ∙ none_added (weight_from (a + 1) n)
    where
      none_added : (x : ℕ) → x ≡ 0 + x
      none_added x = omega arith

  -- at the first number all weights remain
  pub sum_start : (n : ℕ) → length ws ≡ n - 1 → 0 + weight_from 1 (n - 1) ≡ weight ws (filter p (range_with_len 1 (length ws)))
  sum_start n e = from_zero (weight_from 1 (n - 1)) (weight_from 1 (length ws)) (ap (λ i. weight_from 1 i) (sym e)) where
    from_zero : (x y : ℕ) → x ≡ y → 0 + x ≡ y
    from_zero x y h = omega arith

  pub sum_some : (a n m sum new all : ℕ) → n ≡ suc m → p a ≡ true → new ≡ sum + slice_index ws (a - 1) → sum + weight_from a n ≡ all → new + weight_from (a + 1) m ≡ all
  sum_some a n m sum new all e has is whole =
      omega (arith, weight_here a m true has, ap (λ i. weight_from a i) e)

  pub sum_none : (a n m sum new all : ℕ) → n ≡ suc m → p a ≡ false → new ≡ sum → sum + weight_from a n ≡ all → new + weight_from (a + 1) m ≡ all
  sum_none a n m sum new all e lacks is whole =
      omega (arith, weight_here a m false lacks, ap (λ i. weight_from a i) e)

  pub sum_last : (a n sum all : ℕ) → n ≡ 0 → sum + weight_from a n ≡ all → sum ≡ all
  sum_last a n sum all e whole = omega (arith, ap (λ i. weight_from a i) e)

-- ---- two filtered ranges with equally many numbers
later_head : (q : ℕ → Bool) (a n y : ℕ) (ys : List ℕ) → filter q (range_with_len a n) ≡ y ∷ ys → a ≤ y
later_head q a zero y ys e = absurd (cc)
later_head q a (suc n) y ys e = step (q a) e (later_head q (a + 1) n y ys) where
  head : (x z : ℕ) (xs zs : List ℕ) → x ∷ xs ≡ z ∷ zs → x ≡ z
  head x z xs zs same = cc

  step : (b : Bool) → cond b (a ∷ filter q (range_with_len (a + 1) n)) (filter q (range_with_len (a + 1) n)) ≡ y ∷ ys → (filter q (range_with_len (a + 1) n) ≡ y ∷ ys → a + 1 ≤ y) → a ≤ y
  step true same rest = omega (arith, head a y (filter q (range_with_len (a + 1) n)) ys same)
  step false same rest = omega (arith, rest same)

first_earlier : (a : ℕ) (xs ys : List ℕ) → ((y : ℕ) (zs : List ℕ) → ys ≡ y ∷ zs → a + 1 ≤ y) → suc (length xs) ≡ length ys → is_earlier_list (a ∷ xs) ys ≡ true
first_earlier a xs [] later same = absurd (omega arith)
first_earlier a xs (y ∷ ys) later same =
    ap (λ b. cond b (is_earlier_list xs ys) (nat_lt a y)) (ne_eqb a y (λ e. absurd (omega (arith, later y ys refl)))) ∙ lt-ltb a y (omega (arith, later y ys refl))

second_earlier : (a : ℕ) (xs ys : List ℕ) → ((x : ℕ) (zs : List ℕ) → xs ≡ x ∷ zs → a + 1 ≤ x) → length xs ≡ suc (length ys) → is_earlier_list xs (a ∷ ys) ≡ false
second_earlier a [] ys later same = absurd (omega arith)
second_earlier a (x ∷ xs) ys later same =
    ap (λ b. cond b (is_earlier_list xs ys) (nat_lt x a)) (ne_eqb x a (λ e. absurd (omega (arith, later x xs refl)))) ∙ le-ltb x a (omega (arith, later x xs refl))

earlier-same : (a : ℕ) (xs ys : List ℕ) → is_earlier_list (a ∷ xs) (a ∷ ys) ≡ is_earlier_list xs ys
earlier-same a xs ys = ap (λ b. cond b (is_earlier_list xs ys) (nat_lt a a)) (eq-eqb a a refl)

list_here : (r : ℕ → Bool) (a m : ℕ) (b : Bool) → r a ≡ b → filter r (range_with_len a (suc m)) ≡ cond b (a ∷ filter r (range_with_len (a + 1) m)) (filter r (range_with_len (a + 1) m))
list_here r a m b e = ap (λ c. cond c (a ∷ filter r (range_with_len (a + 1) m)) (filter r (range_with_len (a + 1) m))) e

-- equally many numbers remain of both, and the order of the rests is the order of the lists
pub record IsUndecided (p q : ℕ → Bool) (a n : ℕ) (answer : Bool) : Type 0 where
  pub as_many : length (filter p (range_with_len a n)) ≡ length (filter q (range_with_len a n))
  pub decides : is_earlier_list (filter p (range_with_len a n)) (filter q (range_with_len a n)) ≡ answer

module _ (p q : ℕ → Bool) where
  lists_here : (a m : ℕ) (b c : Bool) (ep : p a ≡ b) (eq : q a ≡ c) (answer : Bool) → IsUndecided p q a (suc m) answer
      → (length (cond b (a ∷ filter p (range_with_len (a + 1) m)) (filter p (range_with_len (a + 1) m))) ≡ length (cond c (a ∷ filter q (range_with_len (a + 1) m)) (filter q (range_with_len (a + 1) m))))
      × (is_earlier_list (cond b (a ∷ filter p (range_with_len (a + 1) m)) (filter p (range_with_len (a + 1) m))) (cond c (a ∷ filter q (range_with_len (a + 1) m)) (filter q (range_with_len (a + 1) m))) ≡ answer)
  lists_here a m b c ep eq answer o =
      (sym (ap length (list_here p a m b ep)) ∙ o.as_many ∙ ap length (list_here q a m c eq), sym (λ i. is_earlier_list (list_here p a m b ep i) (list_here q a m c eq i)) ∙ o.decides)

  both_next : (a m : ℕ) (answer b : Bool) → p a ≡ b → q a ≡ b → IsUndecided p q a (suc m) answer → IsUndecided p q (a + 1) m answer
  both_next a m answer true ep eq o =
      let h = lists_here a m true true ep eq answer o in
      record { as_many = omega (arith, h.0); decides = sym (earlier-same a (filter p (range_with_len (a + 1) m)) (filter q (range_with_len (a + 1) m))) ∙ h.1 }
  both_next a m answer false ep eq o =
      let h = lists_here a m false false ep eq answer o in
      record { as_many = h.0; decides = h.1 }

  first_here : (a m : ℕ) (answer : Bool) → p a ≡ true → q a ≡ false → IsUndecided p q a (suc m) answer → true ≡ answer
  first_here a m answer ep eq o =
      let h = lists_here a m true false ep eq answer o in
      sym (first_earlier a (filter p (range_with_len (a + 1) m)) (filter q (range_with_len (a + 1) m)) (later_head q (a + 1) m) h.0) ∙ h.1

  second_here : (a m : ℕ) (answer : Bool) → p a ≡ false → q a ≡ true → IsUndecided p q a (suc m) answer → false ≡ answer
  second_here a m answer ep eq o =
      let h = lists_here a m false true ep eq answer o in
      sym (second_earlier a (filter p (range_with_len (a + 1) m)) (filter q (range_with_len (a + 1) m)) (later_head p (a + 1) m) h.0) ∙ h.1

  -- the tests agree at a number
  pub earlier_next : (a n m : ℕ) (answer : Bool) → n ≡ suc m → p a ≡ q a → IsUndecided p q a n answer → IsUndecided p q (a + 1) m answer
  earlier_next a n m answer e same o = both_next a m answer (p a) refl (sym same) (subst (λ i. IsUndecided p q a i answer) e o)

  -- the tests differ at a number: the list of the test that passes there is the earlier one
  pub earlier_here : (a n m : ℕ) (answer : Bool) → n ≡ suc m → (p a ≡ q a → ⊥) → IsUndecided p q a n answer → p a ≡ answer
  earlier_here a n m answer e apart o = by (p a) (q a) refl refl where
    here : IsUndecided p q a (suc m) answer
    here = subst (λ i. IsUndecided p q a i answer) e o

    by : (b c : Bool) → p a ≡ b → q a ≡ c → p a ≡ answer
    by true true ep eq = absurd (apart (ep ∙ sym eq))
    by true false ep eq = ep ∙ first_here a m answer ep eq here
    by false true ep eq = ep ∙ second_here a m answer ep eq here
    by false false ep eq = absurd (apart (ep ∙ sym eq))

  -- no number remains
  pub earlier_none : (a n : ℕ) (answer : Bool) → n ≡ 0 → IsUndecided p q a n answer → false ≡ answer
  earlier_none a n answer e o = (subst (λ i. IsUndecided p q a i answer) e o).decides

  -- at the first number
  pub earlier_start : (d : ℕ) → length (filter p (range_with_len 1 d)) ≡ length (filter q (range_with_len 1 d))
      → IsUndecided p q 1 (d + 1 - 1) (is_earlier_list (filter p (range_with_len 1 d)) (filter q (range_with_len 1 d)))
  earlier_start d same = subst (λ i. IsUndecided p q 1 i (is_earlier_list (filter p (range_with_len 1 d)) (filter q (range_with_len 1 d)))) back (record { as_many = same; decides = refl }) where
    back : d ≡ d + 1 - 1
    back = omega arith

-- two answers that were compared
pub same_test : (b c b' c' : Bool) → b ≡ b' → c ≡ c' → not (beq b c) ≡ false → b' ≡ c'
same_test b c b' c' eb ec h = grind arith

pub apart_test : (b c b' c' : Bool) → b ≡ b' → c ≡ c' → not (beq b c) ≡ true → b' ≡ c' → ⊥
apart_test b c b' c' eb ec h e = grind arith
