-- The set of difference numbers whose bits are set in four words.
use Rattle.std.proofs.Common.{◌≡◌, ◌↔◌, ℕ, zero, suc, ◌+◌, ◌-◌, ◌/◌, ◌%◌, ◌<◌, ◌≤◌, Bool, true, false, not, ◌||◌, ◌&&◌, List, [], ◌∷◌, length, filter, get_or, nat_eq, nat_lt, refl, sym, ap, ◌∙◌, arith, inl, inr}
use Rattle.std.proofs.lemmas.Bool.{and_parts, cases_lt, ne_eqb, false≢true}
use Rattle.std.proofs.lemmas.Bool.Decides.{nat_tests}
use Rattle.std.proofs.lemmas.Nat.Bits.{bit_at-zero}
use Rattle.std.specs.List.{range_with_len}
use Rattle.std.specs.Ordering.{nat_cmp}
use Rattle.std.specs.FinSet as set
use Rattle.mre_base.specs.Before.{count_of}
use Rattle.mre_base.specs.Sets.{set_below, is_same_set, ArePlaces}
use Rattle.mre_base.specs.SameSets.{same_members, same_from_is_same_set, is_same_set-itself}
use Rattle.mre_base.specs.Words.{has_bit, has_place, places_in, words_from, AreWords}
use Rattle.mre_base.proofs.Tests.{same_test}
use Rattle.mre_base.proofs.SetsBelow.{contains-set_below, member, member_below, set_below-put, set_below-take_out, set_below-is_subset, is_subset-set_below}
use Rattle.mre_base.proofs.ListOrder.{filter-agree, filter-shifted}
use Rattle.mre_base.proofs.WordLists.{same_words, words_from-bits, has_bit-past}

-- words that are 0 have no bit
pub no_bits : (words : List ℕ) → ((i : ℕ) → get_or words i 0 ≡ 0) → (k : ℕ) → has_bit words k ≡ false
no_bits words h k = rw (h (k / 64), bit_at-zero (k % 64)) refl

-- a set below a bound that nothing passes is empty
pub set_below-none : (p : ℕ → Bool) (n : ℕ) → ((k : ℕ) → p k ≡ false) → set_below p n ≡ set.empty
set_below-none p n h = same_members _ _ (λ q. contains-set_below p n q ∙ ap (λ b. nat_lt q n && b) (h q) ∙ never (nat_lt q n) ∙ sym (set.contains-empty nat_cmp q))
  where
    never : (b : Bool) → (b && false) ≡ false
    never true = refl
    never false = refl

abbrev four_zeros : List ℕ
four_zeros = 0 ∷ 0 ∷ 0 ∷ 0 ∷ []

pub places_in-none : places_in four_zeros ≡ set.empty
places_in-none = set_below-none (has_place four_zeros) 257 none
  where
    zeros : (i : ℕ) → get_or four_zeros i 0 ≡ 0
    zeros zero = refl
    zeros (suc zero) = refl
    zeros (suc (suc zero)) = refl
    zeros (suc (suc (suc zero))) = refl
    zeros (suc (suc (suc (suc i)))) = refl

    none : (k : ℕ) → has_place four_zeros k ≡ false
    none zero = refl
    none (suc k) = no_bits four_zeros zeros k

-- the bit of a number
at_place : (words : List ℕ) (p : ℕ) → 1 ≤ p → has_place words p ≡ has_bit words (p - 1)
at_place words zero l = absurd (omega arith)
at_place words (suc k) l = ap (has_bit words) (omega arith)

one_less : (k i : ℕ) → nat_eq k (suc i - 1) ≡ nat_eq (suc k) (suc i)
one_less k i = grind (arith, nat_tests)

pub contains-places_in : (words : List ℕ) (p : ℕ) → 1 ≤ p → p ≤ 256 → set.contains (places_in words) p ≡ has_bit words (p - 1)
contains-places_in words p l m = member (has_place words) 257 p (omega arith) ∙ at_place words p l

pub places_in-put : (old new : List ℕ) (p : ℕ) → 1 ≤ p → p ≤ 256 → ((k : ℕ) → has_bit new k ≡ (nat_eq k (p - 1) || has_bit old k)) → places_in new ≡ set.insert (places_in old) p
places_in-put old new zero l m h = absurd (omega arith)
places_in-put old new (suc i) l m h = set_below-put (has_place old) (has_place new) 257 (suc i) (omega arith) each
  where
    each : (k : ℕ) → has_place new k ≡ (nat_eq k (suc i) || has_place old k)
    each zero = rw (ne_eqb 0 (suc i) (λ e. absurd (omega arith))) refl
    each (suc k) = h k ∙ ap (λ b. b || has_bit old k) (one_less k i)

pub places_in-take_out : (old new : List ℕ) (p : ℕ) → 1 ≤ p → ((k : ℕ) → has_bit new k ≡ (not (nat_eq k (p - 1)) && has_bit old k)) → places_in new ≡ set.remove (places_in old) p
places_in-take_out old new zero l h = absurd (omega arith)
places_in-take_out old new (suc i) l h = set_below-take_out (has_place old) (has_place new) 257 (suc i) each
  where
    each : (k : ℕ) → has_place new k ≡ (not (nat_eq k (suc i)) && has_place old k)
    each zero = rw (ne_eqb 0 (suc i) (λ e. absurd (omega arith))) refl
    each (suc k) = h k ∙ ap (λ b. not b && has_bit old k) (one_less k i)

-- no bit beyond the 256 of four words is set
no_more : (words : List ℕ) → length words ≡ 4 → (k : ℕ) → has_bit words k ≡ true → k < 256
no_more words long k set = elim (cases_lt k 256) [ inl l ↦ l | inr l ↦ absurd (false≢true (sym (has_bit-past words k (omega arith)) ∙ set)) ]

pub places_in-is_subset : (one two : List ℕ) (r : Bool) → length one ≡ 4 → (r ≡ true ↔ ((k : ℕ) → has_bit one k ≡ true → has_bit two k ≡ true)) → r ≡ set.is_subset (places_in one) (places_in two)
places_in-is_subset one two r long says = same_test r _
    (λ e. set_below-is_subset (has_place one) (has_place two) 257 (up (says.0 e)))
    (λ e. says.1 (λ k set. is_subset-set_below (has_place one) (has_place two) 257 e (suc k) (let m = no_more one long k set in omega arith) set))
  where
    up : ((k : ℕ) → has_bit one k ≡ true → has_bit two k ≡ true) → (k : ℕ) → has_place one k ≡ true → has_place two k ≡ true
    up h zero e = absurd (false≢true e)
    up h (suc k) e = h k e

-- the members of the set are difference numbers
pub places_in-ArePlaces : (words : List ℕ) → ArePlaces (places_in words)
places_in-ArePlaces words zero h = absurd (false≢true (and_parts (nat_lt 0 257) false (sym (contains-set_below (has_place words) 257 0) ∙ h)).1)
places_in-ArePlaces words (suc k) h = let m = member_below (has_place words) 257 (suc k) h in (omega arith, omega arith)

-- the number of members
pub places_in-count_of : (words : List ℕ) → length (filter (has_bit words) (range_with_len 0 256)) ≡ count_of (places_in words)
unfolding count_of
places_in-count_of words =
    sym (filter-shifted (has_place words) (has_bit words) 0 256 (λ k. refl))
    ∙ ap length (filter-agree (has_place words) (set.contains (places_in words)) 1 256 (λ k l m. sym (member (has_place words) 257 k (omega arith))))

-- equal words, equal sets
pub places_in-same : (one two : List ℕ) → length one ≡ 4 → length two ≡ 4 → AreWords one → AreWords two → places_in one ≡ places_in two → one ≡ two
places_in-same one two long long' fits fits' e = same_words one two (omega arith) fits fits' (λ k l.
    sym (member (has_place one) 257 (suc k) (omega arith)) ∙ ap (λ s. set.contains s (suc k)) e ∙ member (has_place two) 257 (suc k) (omega arith))

pub places_in-eq : (one two : List ℕ) (r : Bool) → length one ≡ 4 → length two ≡ 4 → AreWords one → AreWords two → (r ≡ true → one ≡ two) → (one ≡ two → r ≡ true) → r ≡ is_same_set (places_in one) (places_in two)
places_in-eq one two r long long' fits fits' f g = same_test r _
    (λ e. ap (λ words. is_same_set (places_in one) (places_in words)) (sym (f e)) ∙ is_same_set-itself (places_in one))
    (λ e. g (places_in-same one two long long' fits fits' (same_from_is_same_set _ _ e)))

-- the words are those of the set
pub words_from-places_in : (words : List ℕ) → length words ≡ 4 → AreWords words → words_from (λ k. set.contains (places_in words) (k + 1)) 0 4 ≡ words
words_from-places_in words long fits =
    ap (words_from (λ k. set.contains (places_in words) (k + 1)) 0) (sym long)
    ∙ words_from-bits (λ k. set.contains (places_in words) (k + 1)) 0 words fits (λ k l.
    let here : 0 + k + 1 ≡ suc k = omega arith in
    rw here (member (has_place words) 257 (suc k) (omega arith)))
