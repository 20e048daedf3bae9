-- The ascending lists of the bits of two lists of words that first differ in one word: its lowest bit that differs decides.
use Rattle.std.proofs.Common.{◌≡◌, ◌≢◌, ◌↔◌, ℕ, ◌+◌, ◌*◌, ◌^◌, ◌<◌, ◌≤◌, ◌/◌, ◌%◌, nat_eq, Bool, true, false, not, List, length, filter, get_or, sym, ap, ◌∙◌, arith, bit_and, bit_xor}
use Rattle.std.proofs.lemmas.Nat.Bits.{shr_and_one, bit_at-lt}
use Rattle.std.specs.List.{range_with_len}
use Rattle.std.specs.Int.{bit_at, trailing_zeros, w64}
use Rattle.mre_base.specs.Before.{is_earlier_list}
use Rattle.mre_base.specs.Words.{has_bit}
use Rattle.mre_base.proofs.ListOrder.{first_has, second_has, list_any-after, filter-agree, is_earlier_list-itself}
use Rattle.mre_base.proofs.WordLists.{SomeFrom, lowest_difference, agree_below, has_bit-set, has_bit-clear}

abbrev listed : List ℕ → ℕ → List ℕ
listed words n = filter (has_bit words) (range_with_len 0 n)

module _ (one two : List ℕ) (i : ℕ) (long : length one ≡ length two) (within : i < length one)
    (fits : get_or one i 0 < 2 ^ 64) (fits' : get_or two i 0 < 2 ^ 64)
    (below : (j : ℕ) → j < i → get_or one j 0 ≡ get_or two j 0) (apart : get_or one i 0 ≢ get_or two i 0) where
  abbrev bit : ℕ
  bit = trailing_zeros w64 (bit_xor (get_or one i 0) (get_or two i 0))

  pub low : bit < 64
  low = (lowest_difference (get_or one i 0) (get_or two i 0) fits fits' apart).0

  sum : bit_at (get_or one i 0) bit + bit_at (get_or two i 0) bit ≡ 1
  sum = (lowest_difference (get_or one i 0) (get_or two i 0) fits fits' apart).1

  alike : (j : ℕ) → j < 64 * i + bit → has_bit one j ≡ has_bit two j
  alike = agree_below one two i bit low below (lowest_difference (get_or one i 0) (get_or two i 0) fits fits' apart).2

  inside : 64 * i + bit < 64 * length one
  inside = let l : bit < 64 = low in omega arith

  -- the first has it
  pub in_first : (r : Bool) → bit_at (get_or one i 0) bit ≡ 1 → (r ≡ true ↔ SomeFrom two (64 * i + bit)) → r ≡ is_earlier_list (listed one (64 * length one)) (listed two (64 * length one))
  in_first r set says =
      let clear : bit_at (get_or two i 0) bit ≡ 0 = let s = sum in omega arith in
      let gone = has_bit-clear two i bit low clear in
      let says' : r ≡ true ↔ ((j : ℕ) × (64 * i + bit ≤ j) × (j < 64 * length one) × (has_bit two j ≡ true)) =
      (λ e. let f = says.0 e in (f.0, f.1, omega (arith, f.2), f.3), λ f. says.1 (f.0, f.1, omega (arith, f.2), f.3)) in
      list_any-after (has_bit two) (64 * i + bit) (64 * length one) r inside gone says'
      ∙ sym (first_has (has_bit one) (has_bit two) (64 * i + bit) (64 * length one) inside alike (has_bit-set one i bit low set) gone)

  -- the second has it
  pub in_second : (r : Bool) → bit_at (get_or one i 0) bit ≡ 0 → (r ≡ true ↔ SomeFrom one (64 * i + bit)) → not r ≡ is_earlier_list (listed one (64 * length one)) (listed two (64 * length one))
  in_second r clear says =
      let set : bit_at (get_or two i 0) bit ≡ 1 = let s = sum in omega arith in
      let gone = has_bit-clear one i bit low clear in
      ap not (list_any-after (has_bit one) (64 * i + bit) (64 * length one) r inside gone says)
      ∙ sym (second_has (has_bit one) (has_bit two) (64 * i + bit) (64 * length one) inside alike gone (has_bit-set two i bit low set))

-- equal words give the same list
pub same_listed : (one two : List ℕ) → length one ≡ length two → ((j : ℕ) → j < length one → get_or one j 0 ≡ get_or two j 0) → false ≡ is_earlier_list (listed one (64 * length one)) (listed two (64 * length one))
same_listed one two long h =
    sym (ap (is_earlier_list (listed one (64 * length one))) (sym (filter-agree (has_bit one) (has_bit two) 0 (64 * length one) (λ k _ m. same k (omega arith))))
    ∙ is_earlier_list-itself (listed one (64 * length one)))
  where
    same : (k : ℕ) → k < 64 * length one → has_bit one k ≡ has_bit two k
    same k m = let l : k / 64 < length one = omega arith in ap (λ w. nat_eq (bit_at w (k % 64)) 1) (h (k / 64) l)

-- a bit that the test of the code doesn't find is 0
pub not_set : (w k : ℕ) → bit_and (w / 2 ^ k) 1 ≢ 1 → bit_at w k ≡ 0
not_set w k h =
    let small = bit_at-lt w k in
    let same : bit_and (w / 2 ^ k) 1 ≡ bit_at w k = shr_and_one w k in
    omega (arith, small, same, h)
