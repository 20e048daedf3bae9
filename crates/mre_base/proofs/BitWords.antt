-- The set of numbers below a width whose bits are set.
use Rattle.std.proofs.Common.{◌≡◌, ◌↔◌, ℕ, zero, suc, ◌+◌, ◌*◌, ◌<◌, ◌≤◌, Bool, true, false, not, ◌||◌, ◌&&◌, List, length, filter, get_or, replicate, nat_eq, refl, sym, ap, ◌∙◌, arith, inl, inr}
use Rattle.std.proofs.lemmas.Bool.{cases_lt, false≢true}
use Rattle.std.specs.List.{range_with_len}
use Rattle.std.specs.FinSet as set
use Rattle.mre_base.specs.Sets.{numbers_below, BitSet}
use Rattle.mre_base.specs.Words.{has_bit, bits_below, words_for, words_from, HoldBits, AreWords}
use Rattle.mre_base.proofs.SetsBelow.{member, member_below, set_below-put, set_below-take_out, set_below-is_subset, is_subset-set_below}
use Rattle.mre_base.proofs.ListOrder.{filter-agree, filter-shorter}
use Rattle.mre_base.proofs.WordLists.{same_words, words_from-bits}
use Rattle.mre_base.proofs.PlaceWords.{no_bits, set_below-none}
use Rattle.mre_base.proofs.Tests.{same_test}

abbrev seen : ℕ → List ℕ → BitSet
seen width words = record { width = width; members = bits_below width words }

pub zeros : (n i : ℕ) → ◌≡◌ {A = ℕ} (get_or (replicate n 0) i 0) 0
zeros zero i = refl
zeros (suc n) zero = refl
zeros (suc n) (suc i) = zeros n i

pub bits_below-none : (width : ℕ) (words : List ℕ) → ((i : ℕ) → get_or words i 0 ≡ 0) → seen width words ≡ record { width = width; members = set.empty }
bits_below-none width words h = λ i. record { width = width; members = set_below-none (has_bit words) width (no_bits words h) i }

pub seen-put : (width : ℕ) (old new : List ℕ) (i : ℕ) → i < width → ((k : ℕ) → has_bit new k ≡ (nat_eq k i || has_bit old k)) → seen width new ≡ record { width = width; members = set.insert (bits_below width old) i }
seen-put width old new i within h = λ j. record { width = width; members = set_below-put (has_bit old) (has_bit new) width i within h j }

pub seen-take_out : (width : ℕ) (old new : List ℕ) (i : ℕ) → ((k : ℕ) → has_bit new k ≡ (not (nat_eq k i) && has_bit old k)) → seen width new ≡ record { width = width; members = set.remove (bits_below width old) i }
seen-take_out width old new i h = λ j. record { width = width; members = set_below-take_out (has_bit old) (has_bit new) width i h j }

-- a bit that is set is below the width
below : (width : ℕ) (words : List ℕ) → HoldBits width words → (k : ℕ) → has_bit words k ≡ true → k < width
below width words holds k set = elim (cases_lt k width) [ inl l ↦ l | inr l ↦ absurd (false≢true (sym (holds.clear k l) ∙ set)) ]

-- a bit past the words is past the width
pub long_enough : (width : ℕ) (words : List ℕ) → HoldBits width words → width ≤ 64 * length words
long_enough width words holds = let long = holds.long in omega arith

pub bits_below-is_subset : (width : ℕ) (one two : List ℕ) (r : Bool) → HoldBits width one → (r ≡ true ↔ ((k : ℕ) → has_bit one k ≡ true → has_bit two k ≡ true)) → r ≡ set.is_subset (bits_below width one) (bits_below width two)
bits_below-is_subset width one two r holds says = same_test r _
    (λ e. set_below-is_subset (has_bit one) (has_bit two) width (says.0 e))
    (λ e. says.1 (λ k set. is_subset-set_below (has_bit one) (has_bit two) width e k (below width one holds k set) set))

pub bits_below-same : (width : ℕ) (one two : List ℕ) → HoldBits width one → HoldBits width two → AreWords one → AreWords two → bits_below width one ≡ bits_below width two → one ≡ two
bits_below-same width one two holds holds' fits fits' e = same_words one two (holds.long ∙ sym holds'.long) fits fits' (λ k _. each k)
  where
    each : (k : ℕ) → has_bit one k ≡ has_bit two k
    each k = elim (cases_lt k width) [
      | inl l ↦ sym (member (has_bit one) width k l) ∙ ap (λ s. set.contains s k) e ∙ member (has_bit two) width k l
      | inr l ↦ holds.clear k l ∙ sym (holds'.clear k l)
    ]

-- the ascending list of a set, over the whole words
pub numbers_below-bits : (width : ℕ) (words : List ℕ) → HoldBits width words → filter (has_bit words) (range_with_len 0 (64 * length words)) ≡ numbers_below width (bits_below width words)
numbers_below-bits width words holds =
    filter-shorter (has_bit words) 0 width (64 * length words) (long_enough width words holds) (λ k l. holds.clear k (omega arith))
    ∙ filter-agree (has_bit words) (set.contains (bits_below width words)) 0 width (λ k l m. sym (member (has_bit words) width k (omega arith)))

-- the words are those of the set
pub words_from-bits_below : (width : ℕ) (words : List ℕ) → HoldBits width words → AreWords words → words_from (set.contains (bits_below width words)) 0 (words_for width) ≡ words
words_from-bits_below width words holds fits =
    ap (words_from (set.contains (bits_below width words)) 0) (sym holds.long)
    ∙ words_from-bits (set.contains (bits_below width words)) 0 words fits (λ k _. let z : 0 + k ≡ k = omega arith in rw z (each k))
  where
    each : (k : ℕ) → set.contains (bits_below width words) k ≡ has_bit words k
    each k = elim (cases_lt k width) [
      | inl l ↦ member (has_bit words) width k l
      | inr l ↦ outside k l (set.contains (bits_below width words) k) refl ∙ sym (holds.clear k l)
    ]
      where
        outside : (k : ℕ) → width ≤ k → (b : Bool) → set.contains (bits_below width words) k ≡ b → b ≡ false
        outside k l true e = absurd (let m = member_below (has_bit words) width k e in omega arith)
        outside k l false e = refl
