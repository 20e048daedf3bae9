-- The numbers of differences.
use Rattle.std.proofs.Common.{◌≡◌, ℕ, suc, ◌+◌, Bool, true, false, cond, ◌||◌, Option, Some, List, [], ◌∷◌, refl, sym, ap, ◌∙◌, arith, inl, inr}
use Rattle.std.specs.Prelude.{Contains, slice_get, is_some}
use Rattle.std.specs.List.{list_any}
use Rattle.std.specs.Option.{option_map, option_map_or}
use Rattle.std.proofs.lemmas.Bool.{cases_Bool, true≢false}
use Rattle.mre_base.proofs.Loops.{contains_cases}
use Rattle.model_kit.specs.Places.{Place, same_place}
use Rattle.model_kit.specs.Differences.{is_told, number_from}
use Rattle.model_kit.proofs.Alike.{same_place-decides}

number_here : (k : ℕ) (first : Place) (places : List Place) (p : Place) (b : Bool) → same_place first p ≡ b → number_from k (first ∷ places) p ≡ cond b (Some k) (number_from (k + 1) places p)
number_here k first places p b is = ap (λ c. cond c (Some k) (number_from (k + 1) places p)) is

pub number_listed : (k : ℕ) (places : List Place) (p : Place) → Contains places p → (n : ℕ) × (number_from k places p ≡ Some n)
number_listed k [] p at = absurd (omega (arith, at.1))
number_listed k (first ∷ places) p there = elim (cases_Bool (same_place first p)) [
  | inl same ↦ (k, number_here k first places p true same)
  | inr apart ↦ elim (contains_cases first places p there) [
    | inl here ↦ absurd (true≢false (sym ((same_place-decides first p).1 here) ∙ apart))
    | inr later ↦ let (n, is) = number_listed (k + 1) places p later in (n, number_here k first places p false apart ∙ is)
  ]
]

pub number_at : (k : ℕ) (places : List Place) (p : Place) (n : ℕ) → number_from k places p ≡ Some n → (j : ℕ) × (n ≡ k + j) × (slice_get places j ≡ Some p)
number_at k [] p n is = absurd (cc)
number_at k (first ∷ places) p n is = elim (cases_Bool (same_place first p)) [
  | inl same ↦
      let one : Some k ≡ Some n = sym (number_here k first places p true same) ∙ is in
      let here : k ≡ n = cc in
      (0, omega (arith, here), ap Some ((same_place-decides first p).0 same))
  | inr apart ↦ let (j, far, at) = number_at (k + 1) places p n (sym (number_here k first places p false apart) ∙ is) in (suc j, omega (arith, far), at)
]

-- a number is that of one place
pub number_one : (places : List Place) (p q : Place) (n : ℕ) → number_from 1 places p ≡ Some n → number_from 1 places q ≡ Some n → p ≡ q
number_one places p q n p_is q_is =
    let (i, at_i, p_at) = number_at 1 places p n p_is in
    let (j, at_j, q_at) = number_at 1 places q n q_is in
    let same : j ≡ i = omega (arith, at_i, at_j) in
    by (slice_get places i) p_at (ap (slice_get places) (sym same) ∙ q_at)
  where
    by : (o : Option Place) → o ≡ Some p → o ≡ Some q → p ≡ q
    by o is_p is_q = cc

-- the numbers from one more on are one more
pub number_next : (k : ℕ) (places : List Place) (p : Place) → number_from (k + 1) places p ≡ option_map (λ n. n + 1) (number_from k places p)
number_next k [] p = refl
number_next k (first ∷ places) p = by (same_place first p) (number_next (k + 1) places p)
  where
    by : (b : Bool) → number_from (k + 1 + 1) places p ≡ option_map (λ n. n + 1) (number_from (k + 1) places p)
        → cond b (Some (k + 1)) (number_from (k + 1 + 1) places p) ≡ option_map (λ n. n + 1) (cond b (Some k) (number_from (k + 1) places p))
    by true rest = refl
    by false rest = rest

-- the number of a place decides whether the place is told
pub told_is : (k : ℕ) (places : List Place) (passes : ℕ → Bool) (place : Place) → is_told k places passes place ≡ option_map_or passes (number_from k places place) false
told_is k [] passes place = refl
told_is k (first ∷ places) passes place = by (same_place first place) (told_is (k + 1) places passes place)
  where
    by : (b : Bool) → is_told (k + 1) places passes place ≡ option_map_or passes (number_from (k + 1) places place) false
        → cond b (passes k) (is_told (k + 1) places passes place) ≡ option_map_or passes (cond b (Some k) (number_from (k + 1) places place)) false
    by true rest = refl
    by false rest = rest

-- a place has a number exactly where it is listed
pub number_some : (k : ℕ) (places : List Place) (p : Place) → is_some (number_from k places p) ≡ list_any (λ q. same_place q p) places
number_some k [] p = refl
number_some k (first ∷ places) p = by (same_place first p) (number_some (k + 1) places p)
  where
    by : (b : Bool) → is_some (number_from (k + 1) places p) ≡ list_any (λ q. same_place q p) places
        → is_some (cond b (Some k) (number_from (k + 1) places p)) ≡ (b || list_any (λ q. same_place q p) places)
    by true rest = refl
    by false rest = rest
