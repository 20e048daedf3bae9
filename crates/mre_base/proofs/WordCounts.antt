-- The number of bits set in words, counted word by word.
use Rattle.std.proofs.Common.{◌≡◌, ℕ, zero, suc, ◌+◌, ◌*◌, ◌/◌, ◌%◌, ◌^◌, ◌<◌, ◌≤◌, Bool, List, ◌∷◌, length, length-append, filter, get_or, nat_eq, if◌then◌else◌, refl, sym, ap, ◌∙◌, arith}
use Rattle.std.proofs.lemmas.List.Elements.{filter-append}
use Rattle.std.proofs.lemmas.Nat.Bits.{bit_at-suc, bit_at_lowest}
use Rattle.std.specs.Int.Count.{ones_step, ones-le}
use Rattle.std.specs.List.{range_with_len}
use Rattle.std.specs.Int.{bit_at}
use Rattle.std.specs.Prelude.{count_ones}
use Rattle.mre_base.specs.Words.{has_bit}
use Rattle.mre_base.proofs.ListOrder.{range-append}

-- a test that reads the bits of a number lets as many numbers pass as that number has ones
pub length-filter-ones : (p : ℕ → Bool) (s m w : ℕ) → w < 2 ^ m → ((j : ℕ) → j < m → p (s + j) ≡ nat_eq (bit_at w j) 1) → length (filter p (range_with_len s m)) ≡ count_ones w
length-filter-ones p s zero w fits h =
    let none : count_ones w ≤ 0 = ones-le 0 w fits in
    omega arith
length-filter-ones p s (suc m) w fits h =
    let half : w / 2 < 2 ^ m = grind arith in
    let rest = length-filter-ones p (s + 1) m (w / 2) half (λ j l. ap p (omega arith) ∙ h (suc j) (omega arith) ∙ ap (λ b. nat_eq b 1) (bit_at-suc w j)) in
    let z : s + 0 ≡ s = omega arith in
    let lowest : p s ≡ nat_eq (w % 2) 1 = ap p (sym z) ∙ h 0 (omega arith) ∙ ap (λ b. nat_eq b 1) (bit_at_lowest w) in
    rw (lowest, ones_step w) (step (w % 2) (omega arith) rest)
  where
    step : (b : ℕ) → b < 2 → length (filter p (range_with_len (s + 1) m)) ≡ count_ones (w / 2) → length (if nat_eq b 1 then s ∷ filter p (range_with_len (s + 1) m) else filter p (range_with_len (s + 1) m)) ≡ b + count_ones (w / 2)
    step zero l e = omega (arith, e)
    step (suc zero) l e = omega (arith, e)
    step (suc (suc b)) l e = absurd (omega arith)

-- the bits of one more word
pub length-filter-word : (words : List ℕ) (i : ℕ) → get_or words i 0 < 2 ^ 64 → length (filter (has_bit words) (range_with_len 0 (64 * (i + 1)))) ≡ length (filter (has_bit words) (range_with_len 0 (64 * i))) + count_ones (get_or words i 0)
length-filter-word words i fits =
    let cut : 64 * (i + 1) ≡ 64 * i + 64 = omega arith in
    let z : 0 + 64 * i ≡ 64 * i = omega arith in
    rw (cut, range-append 0 (64 * i) 64, z, filter-append (has_bit words) (range_with_len 0 (64 * i)) (range_with_len (64 * i) 64))
    (length-append (filter (has_bit words) (range_with_len 0 (64 * i))) (filter (has_bit words) (range_with_len (64 * i) 64))
    ∙ ap (λ n. length (filter (has_bit words) (range_with_len 0 (64 * i))) + n) (length-filter-ones (has_bit words) (64 * i) 64 (get_or words i 0) fits bits))
  where
    bits : (j : ℕ) → j < 64 → has_bit words (64 * i + j) ≡ nat_eq (bit_at (get_or words i 0) j) 1
    bits j l =
        let a : (64 * i + j) / 64 ≡ i = omega arith in
        let b : (64 * i + j) % 64 ≡ j = omega arith in
        rw (a, b) refl
