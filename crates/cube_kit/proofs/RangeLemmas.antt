-- A range of numbers filtered by a test: the numbers that it has, and how two filtered ranges compare if each number that passes one test passes the other.
use Rattle.std.proofs.Common.{◌≡◌, ℕ, zero, suc, ◌+◌, ◌≤◌, ◌<◌, Bool, true, false, ◌&&◌, ◌||◌, cond, List, ◌∷◌, filter, sum_by, nat_eq, nat_le, nat_lt, refl, sym, ap, ◌∙◌, arith, ◌⊎◌, inl, inr}
use Rattle.std.specs.List.{range_with_len, list_any}
use Rattle.std.proofs.lemmas.Bool.{false≢true}
use Rattle.std.proofs.lemmas.Bool.Decides.{nat_tests}
use Rattle.std.proofs.lemmas.List.Sums.{sum_by-cons}

-- the number is in the range from a on
abbrev pub is_in_range : ℕ → ℕ → ℕ → Bool
is_in_range a n q = nat_le a q && nat_lt q (a + n)

none_in : (a q : ℕ) (pq : Bool) → false ≡ (is_in_range a 0 q && pq)
none_in a q pq = grind (arith, nat_tests)

one_in : (a n q : ℕ) (pq any : Bool) → (a ≡ q → pq ≡ true) → any ≡ (is_in_range (a + 1) n q && pq) → (nat_eq a q || any) ≡ (is_in_range a (suc n) q && pq)
one_in a n q pq any same rest = grind (arith, nat_tests)

one_out : (a n q : ℕ) (pq any : Bool) → (a ≡ q → pq ≡ false) → any ≡ (is_in_range (a + 1) n q && pq) → any ≡ (is_in_range a (suc n) q && pq)
one_out a n q pq any same rest = grind (arith, nat_tests)

-- the numbers of a filtered range
pub any-filter-range : (p : ℕ → Bool) (a n q : ℕ) → list_any (λ y. nat_eq y q) (filter p (range_with_len a n)) ≡ (is_in_range a n q && p q)
any-filter-range p a zero q = none_in a q (p q)
any-filter-range p a (suc n) q = step (p a) refl (any-filter-range p (a + 1) n q) where
  step : (b : Bool) → p a ≡ b → list_any (λ y. nat_eq y q) (filter p (range_with_len (a + 1) n)) ≡ (is_in_range (a + 1) n q && p q)
      → list_any (λ y. nat_eq y q) (cond b (a ∷ filter p (range_with_len (a + 1) n)) (filter p (range_with_len (a + 1) n))) ≡ (is_in_range a (suc n) q && p q)
  step true e rest = one_in a n q (p q) _ (λ same. sym (ap p same) ∙ e) rest
  step false e rest = one_out a n q (p q) _ (λ same. sym (ap p same) ∙ e) rest

next_in : (a n q : ℕ) (any : Bool) → any ≡ is_in_range (a + 1) n q → (nat_eq a q || any) ≡ is_in_range a (suc n) q
next_in a n q any rest = grind (arith, nat_tests)

empty_range : (a q : ℕ) → false ≡ is_in_range a 0 q
empty_range a q = grind (arith, nat_tests)

-- the numbers of a range
pub any-range : (a n q : ℕ) → list_any (λ y. nat_eq y q) (range_with_len a n) ≡ is_in_range a n q
any-range a zero q = empty_range a q
any-range a (suc n) q = next_in a n q _ (any-range (a + 1) n q)

-- the lists are equal, or the sum over the first is less
abbrev IsLess : (ℕ → ℕ) → List ℕ → List ℕ → Type 0
IsLess w xs ys = (xs ≡ ys) ⊎ (sum_by w xs < sum_by w ys)

both_more : (w : ℕ → ℕ) (a : ℕ) (xs ys : List ℕ) → IsLess w xs ys → IsLess w (a ∷ xs) (a ∷ ys)
both_more w a xs ys h =
    elim h [ inl e ↦ inl (ap (λ zs. a ∷ zs) e) | inr lt ↦ inr (omega (arith, sum_by-cons w a xs, sum_by-cons w a ys)) ]

one_more : (w : ℕ → ℕ) (a : ℕ) (xs ys : List ℕ) → 1 ≤ w a → IsLess w xs ys → IsLess w xs (a ∷ ys)
one_more w a xs ys heavy h =
    inr (elim h [ inl e ↦ omega (arith, ap (sum_by w) e, sum_by-cons w a ys) | inr lt ↦ omega (arith, sum_by-cons w a ys) ])

-- if each number that passes the first test passes the second, the filtered ranges are equal or the sum over the first is less
pub filter-range-less : (w : ℕ → ℕ) (p q : ℕ → Bool) (a n : ℕ) → ((k : ℕ) → p k ≡ true → q k ≡ true) → ((k : ℕ) → a ≤ k → k < a + n → 1 ≤ w k)
    → IsLess w (filter p (range_with_len a n)) (filter q (range_with_len a n))
filter-range-less w p q a zero more heavy = inl refl
filter-range-less w p q a (suc n) more heavy =
    step (p a) (q a) (more a) (filter-range-less w p q (a + 1) n more (λ k low high. heavy k (omega arith) (omega arith))) where
      step : (b c : Bool) → (b ≡ true → c ≡ true) → IsLess w (filter p (range_with_len (a + 1) n)) (filter q (range_with_len (a + 1) n))
          → IsLess w (cond b (a ∷ filter p (range_with_len (a + 1) n)) (filter p (range_with_len (a + 1) n))) (cond c (a ∷ filter q (range_with_len (a + 1) n)) (filter q (range_with_len (a + 1) n)))
      step true true m rest = both_more w a (filter p (range_with_len (a + 1) n)) (filter q (range_with_len (a + 1) n)) rest
      step true false m rest = absurd (false≢true (m refl))
      step false true m rest = one_more w a (filter p (range_with_len (a + 1) n)) (filter q (range_with_len (a + 1) n)) (heavy a (omega arith) (omega arith)) rest
      step false false m rest = rest
