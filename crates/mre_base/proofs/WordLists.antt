-- Words and the sets of their bits: subsets, equality, and the words of a set.
use Rattle.std.proofs.Common.{◌≡◌, ◌≢◌, ℕ, zero, suc, ◌+◌, ◌-◌, ◌*◌, ◌/◌, ◌%◌, ◌^◌, ◌<◌, ◌≤◌, min, Bool, true, false, List, [], ◌∷◌, length, get_or, nat_eq, if◌then◌else◌, add_assoc, zero-add, refl, sym, ap, ◌∙◌, arith, inl, inr, bit_and, bit_xor}
use Rattle.std.proofs.lemmas.Bool.{eq-eqb, eqb-true, cases_lt, false≢true}
use Rattle.std.proofs.lemmas.List.{get_or_past}
use Rattle.std.proofs.lemmas.Nat.Bits.{bit_at_and, bit_at_not, bit_at-lt, bit_at-zero, bit_at_above, bit_at_xor, same_from_bits, bit_at_cat_low, bit_at_cat_high, bit_at-trailing_zeros}
use Rattle.std.proofs.lemmas.Nat.{shr-shr, xor_lt}
use Rattle.std.proofs.Math.Nat.{div-le_self, div-one}
use Rattle.std.specs.Int.{bit_at, bit_not, trailing_zeros, w64}
use Rattle.mre_base.specs.Words.{has_bit, word_from, words_from, AreWords}

-- ---- one word
-- each bit that is set in one word is set in another
pub within_word : (a b : ℕ) → a < 2 ^ 64 → b < 2 ^ 64 → ((i : ℕ) → i < 64 → bit_at a i ≡ 1 → bit_at b i ≡ 1) → bit_and a (bit_not w64 b) ≡ 0
within_word a b fits fits' h = same_from_bits (bit_and a (bit_not w64 b)) 0 each
  where
    low : (i : ℕ) → i < 64 → (x y : ℕ) → x < 2 → (x ≡ 1 → y ≡ 1) → min x (1 - y) ≡ 0
    low i l x y small up = elim (cases_lt x 1) [ inl z ↦ omega arith | inr o ↦ let one : y ≡ 1 = up (omega arith) in omega arith ]

    each : (i : ℕ) → bit_at (bit_and a (bit_not w64 b)) i ≡ bit_at 0 i
    each i = elim (cases_lt i 64) [
      | inl l ↦ bit_at_and a (bit_not w64 b) i ∙ ap (min (bit_at a i)) (bit_at_not w64 b i fits' l) ∙ low i l (bit_at a i) (bit_at b i) (bit_at-lt a i) (h i l) ∙ sym (bit_at-zero i)
      | inr l ↦ bit_at_and a (bit_not w64 b) i ∙ ap (λ n. min n (bit_at (bit_not w64 b) i)) (bit_at_above a 64 i fits l) ∙ (let z : min 0 (bit_at (bit_not w64 b) i) ≡ 0 = omega arith in z) ∙ sym (bit_at-zero i)
    ]

pub word_within : (a b i : ℕ) → b < 2 ^ 64 → i < 64 → bit_and a (bit_not w64 b) ≡ 0 → bit_at a i ≡ 1 → bit_at b i ≡ 1
word_within a b i fits l none one =
    let both : min (bit_at a i) (1 - bit_at b i) ≡ 0 = sym (ap (min (bit_at a i)) (bit_at_not w64 b i fits l)) ∙ sym (bit_at_and a (bit_not w64 b) i) ∙ ap (λ n. bit_at n i) none ∙ bit_at-zero i in
    let small = bit_at-lt b i in
    omega arith

-- ---- lists of words
pub has_bit-past : (words : List ℕ) (k : ℕ) → length words ≤ k / 64 → has_bit words k ≡ false
has_bit-past words k h = rw (get_or_past words (k / 64) 0 h, bit_at-zero (k % 64)) refl

-- each bit that is set in the first words is set in the second ones
pub within_bits : (one two : List ℕ) → length one ≡ length two → AreWords two → ((i : ℕ) → i < length one → bit_and (get_or one i 0) (bit_not w64 (get_or two i 0)) ≡ 0) → (k : ℕ) → has_bit one k ≡ true → has_bit two k ≡ true
within_bits one two long fits none k h = elim (cases_lt (k / 64) (length one)) [
  | inl l ↦ eq-eqb _ _ (word_within (get_or one (k / 64) 0) (get_or two (k / 64) 0) (k % 64) (fits (k / 64)) (omega arith) (none (k / 64) l) (eqb-true _ _ h))
  | inr l ↦ absurd (false≢true (sym (has_bit-past one k l) ∙ h))
]

-- bit i of word w is bit 64 * w + i
split : (words : List ℕ) (w i : ℕ) → i < 64 → has_bit words (64 * w + i) ≡ nat_eq (bit_at (get_or words w 0) i) 1
split words w i l =
    let a : (64 * w + i) / 64 ≡ w = omega arith in
    let b : (64 * w + i) % 64 ≡ i = omega arith in
    rw (a, b) refl

first_word : (w : ℕ) (ws : List ℕ) (i : ℕ) → i < 64 → has_bit (w ∷ ws) i ≡ nat_eq (bit_at w i) 1
first_word w ws i l =
    let a : i / 64 ≡ 0 = omega arith in
    let b : i % 64 ≡ i = omega arith in
    rw (a, b) refl

pub bits_within : (one two : List ℕ) → AreWords one → AreWords two → ((k : ℕ) → has_bit one k ≡ true → has_bit two k ≡ true) → (i : ℕ) → bit_and (get_or one i 0) (bit_not w64 (get_or two i 0)) ≡ 0
bits_within one two fits fits' h w = within_word (get_or one w 0) (get_or two w 0) (fits w) (fits' w) (λ i l e.
    eqb-true _ _ (sym (split two w i l) ∙ h (64 * w + i) (split one w i l ∙ eq-eqb _ _ e)))

-- ---- the words of a test
pub word_from-lt : (p : ℕ → Bool) (first n : ℕ) → word_from p first n < 2 ^ n
unfolding word_from
word_from-lt p first zero = omega arith
word_from-lt p first (suc n) =
    let rest = word_from-lt p first n in
    elim (p (first + n)) as (λ b. (if b then 1 else 0) * 2 ^ n + word_from p first n < 2 ^ suc n) [
      | true ↦ grind (arith, rest)
      | false ↦ grind (arith, rest)
    ]

abbrev one_if : Bool → ℕ
one_if b = if b then 1 else 0

pub bit_at-word_from : (p : ℕ → Bool) (first n i : ℕ) → i < n → bit_at (word_from p first n) i ≡ one_if (p (first + i))
unfolding word_from
bit_at-word_from p first zero i h = absurd (omega arith)
bit_at-word_from p first (suc n) i h = elim (cases_lt i n) [
  | inl l ↦ bit_at_cat_low (one_if (p (first + n))) n (word_from p first n) i l ∙ bit_at-word_from p first n i l
  | inr l ↦
      let here : i ≡ n = omega arith in
      bit_at_cat_high (one_if (p (first + n))) n (word_from p first n) i (word_from-lt p first n) l
      ∙ rw here (top (p (first + n)) n)
]
  where
    top : (b : Bool) (n : ℕ) → bit_at (one_if b) (n - n) ≡ one_if b
    top b n = let z : n - n ≡ 0 = omega arith in rw z (elim b as (λ b. bit_at (one_if b) 0 ≡ one_if b) [ true ↦ refl | false ↦ refl ])

-- a word is the word of the test of its bits
pub word_from-bits : (p : ℕ → Bool) (first w : ℕ) → w < 2 ^ 64 → ((i : ℕ) → i < 64 → p (first + i) ≡ nat_eq (bit_at w i) 1) → word_from p first 64 ≡ w
word_from-bits p first w fits h = same_from_bits (word_from p first 64) w each
  where
    back : (b : ℕ) → b < 2 → one_if (nat_eq b 1) ≡ b
    back zero h = refl
    back (suc zero) h = refl
    back (suc (suc b)) h = absurd (omega arith)

    each : (i : ℕ) → bit_at (word_from p first 64) i ≡ bit_at w i
    each i = elim (cases_lt i 64) [
      | inl l ↦ bit_at-word_from p first 64 i l ∙ ap one_if (h i l) ∙ back (bit_at w i) (bit_at-lt w i)
      | inr l ↦ bit_at_above (word_from p first 64) 64 i (word_from-lt p first 64) l ∙ sym (bit_at_above w 64 i fits l)
    ]

-- a list of words is the list of the test of its bits
pub words_from-bits : (p : ℕ → Bool) (first : ℕ) (words : List ℕ) → AreWords words → ((k : ℕ) → k < 64 * length words → p (first + k) ≡ has_bit words k) → words_from p first (length words) ≡ words
unfolding words_from
words_from-bits p first [] fits h = refl
words_from-bits p first (w ∷ ws) fits h =
    let here = word_from-bits p first w (fits 0) (λ i l. h i (omega arith) ∙ first_word w ws i l) in
    let rest = words_from-bits p (first + 64) ws (λ i. fits (suc i)) (λ k l.
    ap p (add_assoc first 64 k) ∙ h (64 + k) (omega arith) ∙ moved k) in
    rw (here, rest) refl
  where
    moved : (k : ℕ) → has_bit (w ∷ ws) (64 + k) ≡ has_bit ws k
    moved k =
        let a : (64 + k) / 64 ≡ suc (k / 64) = omega arith in
        let b : (64 + k) % 64 ≡ k % 64 = omega arith in
        rw (a, b) refl

from_zero : (words : List ℕ) (k : ℕ) → has_bit words (0 + k) ≡ has_bit words k
from_zero words k = ap (has_bit words) (zero-add k)

-- words with the same bits are equal
pub same_words : (one two : List ℕ) → length one ≡ length two → AreWords one → AreWords two → ((k : ℕ) → k < 64 * length one → has_bit one k ≡ has_bit two k) → one ≡ two
same_words one two long fits fits' h =
    sym (words_from-bits (has_bit two) 0 one fits (λ k l. from_zero two k ∙ sym (h k l)))
    ∙ ap (words_from (has_bit two) 0) long ∙ words_from-bits (has_bit two) 0 two fits' (λ k l. from_zero two k)

-- ---- the bits from one on
-- a word that isn't 0 above a place has a bit there
pub bit_above : (w k : ℕ) → w < 2 ^ 64 → w / 2 ^ k ≢ 0 → (b : ℕ) × (k ≤ b) × (b < 64) × (bit_at w b ≡ 1)
bit_above w k fits some =
    let small : w / 2 ^ k < 2 ^ 64 = let h : w / 2 ^ k ≤ w = div-le_self w (2 ^ k) in omega arith in
    let found = bit_at-trailing_zeros w64 (w / 2 ^ k) (omega arith) small in
    at (trailing_zeros w64 (w / 2 ^ k)) found.1
  where
    at : (t : ℕ) → bit_at (w / 2 ^ k) t ≡ 1 → (b : ℕ) × (k ≤ b) × (b < 64) × (bit_at w b ≡ 1)
    at t one =
        let here : bit_at w (k + t) ≡ 1 = sym (ap (λ n. n % 2) (shr-shr w k t)) ∙ one in
        let inside : k + t < 64 = elim (cases_lt (k + t) 64) [ inl l ↦ l | inr l ↦ let none : bit_at w (k + t) ≡ 0 = bit_at_above w 64 (k + t) fits l in absurd (omega arith) ] in
        (k + t, omega arith, inside, here)

-- and the other way round
pub above_bit : (w k b : ℕ) → k ≤ b → bit_at w b ≡ 1 → w / 2 ^ k ≢ 0
above_bit w k b l one none =
    let split : k + (b - k) ≡ b = omega arith in
    let gone : bit_at w b ≡ 0 = ap (bit_at w) (sym split) ∙ sym (ap (λ n. n % 2) (shr-shr w k (b - k))) ∙ ap (λ n. bit_at n (b - k)) none ∙ bit_at-zero (b - k) in
    omega (arith, gone, one)

abbrev pub SomeFrom : List ℕ → ℕ → Type 0
SomeFrom words start = (j : ℕ) × (start ≤ j) × (j < 64 * length words) × (has_bit words j ≡ true)

-- a bit of one word, from a place in it on
pub some_in_word : (words : List ℕ) (i k : ℕ) → i < length words → get_or words i 0 < 2 ^ 64 → get_or words i 0 / 2 ^ k ≢ 0 → SomeFrom words (64 * i + k)
some_in_word words i k short fits some =
    let b = bit_above (get_or words i 0) k fits some in
    (64 * i + b.0, omega (arith, b.1), omega (arith, b.2), split words i b.0 b.2 ∙ eq-eqb _ _ b.3)

-- a bit of a later word
pub some_in_rest : (words : List ℕ) (i k j : ℕ) → k < 64 → get_or words j 0 < 2 ^ 64 → i + 1 ≤ j → j < length words → get_or words j 0 ≢ 0 → SomeFrom words (64 * i + k)
some_in_rest words i k j low fits later short some =
    let whole : get_or words j 0 / 2 ^ 0 ≢ 0 = λ e. some (sym (div-one _) ∙ e) in
    let found = some_in_word words j 0 short fits whole in
    (found.0, omega (arith, found.1), found.2, found.3)

-- where a bit is set from a place on, it is in that word or in a later one
pub where_set : (words : List ℕ) (i k j : ℕ) → k < 64 → 64 * i + k ≤ j → j < 64 * length words → has_bit words j ≡ true → get_or words i 0 / 2 ^ k ≡ 0 → (w : ℕ) × (i + 1 ≤ w) × (w < length words) × (get_or words w 0 ≢ 0)
where_set words i k j low from within set none = elim (cases_lt (j / 64) (i + 1)) [
  | inl l ↦
      let here : j / 64 ≡ i = omega arith in
      let one : bit_at (get_or words i 0) (j % 64) ≡ 1 = ap (λ w. bit_at (get_or words w 0) (j % 64)) (sym here) ∙ eqb-true _ _ set in
      absurd (above_bit (get_or words i 0) k (j % 64) (omega arith) one none)
  | inr l ↦ (
    j / 64,
    l,
    omega arith,
    λ e.
        let gone : bit_at (get_or words (j / 64) 0) (j % 64) ≡ 0 = ap (λ w. bit_at w (j % 64)) e ∙ bit_at-zero (j % 64) in
        let one = eqb-true _ _ set in
        omega (arith, gone, one),
  )
]

-- ---- the lowest bit at which two words differ
pub lowest_difference : (a b : ℕ) → a < 2 ^ 64 → b < 2 ^ 64 → a ≢ b →
    (trailing_zeros w64 (bit_xor a b) < 64) × ((bit_at a (trailing_zeros w64 (bit_xor a b)) + bit_at b (trailing_zeros w64 (bit_xor a b))) ≡ 1)
    × ((i : ℕ) → i < trailing_zeros w64 (bit_xor a b) → bit_at a i ≡ bit_at b i)
lowest_difference a b fits fits' apart =
    let some : bit_xor a b ≢ 0 = λ e. apart (same_from_bits a b (λ i. even (bit_at a i) (bit_at b i) (bit_at-lt a i) (bit_at-lt b i) (sym (bit_at_xor a b i) ∙ ap (λ n. bit_at n i) e ∙ bit_at-zero i))) in
    let found = bit_at-trailing_zeros w64 (bit_xor a b) (omega arith) (xor_lt 64 a b fits fits') in (
      found.0,
      odd (bit_at a (trailing_zeros w64 (bit_xor a b))) (bit_at b (trailing_zeros w64 (bit_xor a b))) (bit_at-lt a _) (bit_at-lt b _) (sym (bit_at_xor a b (trailing_zeros w64 (bit_xor a b))) ∙ found.1),
      λ i l. even (bit_at a i) (bit_at b i) (bit_at-lt a i) (bit_at-lt b i) (sym (bit_at_xor a b i) ∙ found.2 i l),
    )
  where
    even : (x y : ℕ) → x < 2 → y < 2 → (x + y) % 2 ≡ 0 → x ≡ y
    even x y l m e = omega arith

    odd : (x y : ℕ) → x < 2 → y < 2 → (x + y) % 2 ≡ 1 → x + y ≡ 1
    odd x y l m e = omega arith

-- words that agree below word i, and in word i below bit k, agree below bit 64 * i + k
pub agree_below : (one two : List ℕ) (i k : ℕ) → k < 64 → ((j : ℕ) → j < i → get_or one j 0 ≡ get_or two j 0) → ((b : ℕ) → b < k → bit_at (get_or one i 0) b ≡ bit_at (get_or two i 0) b) → (j : ℕ) → j < 64 * i + k → has_bit one j ≡ has_bit two j
agree_below one two i k low below bits j h = elim (cases_lt (j / 64) i) [
  | inl l ↦ ap (λ w. nat_eq (bit_at w (j % 64)) 1) (below (j / 64) l)
  | inr l ↦ let here : j / 64 ≡ i = omega arith in rw here (ap (λ b. nat_eq b 1) (bits (j % 64) (omega arith)))
]

-- bit k of word i is set
pub has_bit-set : (words : List ℕ) (i k : ℕ) → k < 64 → bit_at (get_or words i 0) k ≡ 1 → has_bit words (64 * i + k) ≡ true
has_bit-set words i k low one = split words i k low ∙ eq-eqb _ _ one

pub has_bit-clear : (words : List ℕ) (i k : ℕ) → k < 64 → bit_at (get_or words i 0) k ≡ 0 → has_bit words (64 * i + k) ≡ false
has_bit-clear words i k low none = split words i k low ∙ ap (λ b. nat_eq b 1) none
