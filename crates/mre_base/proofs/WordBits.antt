-- What a write of one bit does to the bits of a list of words.
use Rattle.std.proofs.Common.{◌≡◌, ◌≢◌, ◌⊎◌, ℕ, ◌*◌, ◌/◌, ◌%◌, ◌^◌, ◌<◌, not, ◌||◌, ◌&&◌, List, length, get_or, nat_eq, refl, ap, ◌∙◌, arith, inl, inr, bit_and, bit_or}
use Rattle.std.proofs.Math.ListN.{set}
use Rattle.std.proofs.Common.{get_or-set_other, get_or-set_same}
use Rattle.std.proofs.lemmas.Bool.{eq-eqb, ne_eqb, cases_order}
use Rattle.std.proofs.lemmas.Nat.Bits.{bit_at_set_same, bit_at_set_other, bit_at_clear_same, bit_at_clear_other}
use Rattle.std.specs.Int.{bit_not, w64}
use Rattle.mre_base.specs.Words.{has_bit}

abbrev mask : ℕ → ℕ
mask i = 1 * 2 ^ (i % 64) % 2 ^ 64

differ : (a b : ℕ) → (a ≡ b) ⊎ (a ≢ b)
differ a b = elim (cases_order a b) [ inl e ↦ inl e | inr s ↦ elim s [ inl l ↦ inr (λ e. absurd (omega arith)) | inr l ↦ inr (λ e. absurd (omega arith)) ] ]

-- the word after a write, at a place
module _ (words : List ℕ) (i k w : ℕ) (within : i < 64 * length words) where
  there : k / 64 ≡ i / 64 → get_or (set words (i / 64) w) (k / 64) 0 ≡ w
  there e =
      let short : i / 64 < length words = omega arith in
      ap (λ j. get_or (set words (i / 64) w) j 0) e ∙ get_or-set_same words (i / 64) w 0 short

  elsewhere : k / 64 ≢ i / 64 → get_or (set words (i / 64) w) (k / 64) 0 ≡ get_or words (k / 64) 0
  elsewhere e = get_or-set_other words (i / 64) (k / 64) w 0 e

-- setting bit i
pub has_bit-put : (words : List ℕ) (i k : ℕ) → i < 64 * length words → has_bit (set words (i / 64) (bit_or (get_or words (i / 64) 0) (mask i))) k ≡ (nat_eq k i || has_bit words k)
has_bit-put words i k within = elim (differ (k / 64) (i / 64)) [
  | inl same ↦ elim (differ (k % 64) (i % 64)) [
    | inl e ↦
        let here : k ≡ i = omega arith in
        rw (there words i k _ within same, e, bit_at_set_same w64 (get_or words (i / 64) 0) (i % 64) (omega arith), eq-eqb k i here) refl
    | inr ne ↦
        let away : k ≢ i = λ e. ne (ap (λ n. n % 64) e) in
        rw (there words i k _ within same, bit_at_set_other w64 (get_or words (i / 64) 0) (i % 64) (omega arith) (k % 64) ne, ne_eqb k i away, ← same) refl
  ]
  | inr other ↦
      let away : k ≢ i = λ e. other (ap (λ n. n / 64) e) in
      rw (elsewhere words i k _ within other, ne_eqb k i away) refl
]

-- clearing bit i
pub has_bit-take_out : (words : List ℕ) (i k : ℕ) → i < 64 * length words → has_bit (set words (i / 64) (bit_and (get_or words (i / 64) 0) (bit_not w64 (mask i)))) k ≡ (not (nat_eq k i) && has_bit words k)
has_bit-take_out words i k within = elim (differ (k / 64) (i / 64)) [
  | inl same ↦ elim (differ (k % 64) (i % 64)) [
    | inl e ↦
        let here : k ≡ i = omega arith in
        rw (there words i k _ within same, e, bit_at_clear_same w64 (get_or words (i / 64) 0) (i % 64) (omega arith), eq-eqb k i here) refl
    | inr ne ↦
        let away : k ≢ i = λ e. ne (ap (λ n. n % 64) e) in
        rw (there words i k _ within same, bit_at_clear_other w64 (get_or words (i / 64) 0) (i % 64) (omega arith) (k % 64) (omega arith) ne, ne_eqb k i away, ← same) refl
  ]
  | inr other ↦
      let away : k ≢ i = λ e. other (ap (λ n. n / 64) e) in
      rw (elsewhere words i k _ within other, ne_eqb k i away) refl
]
