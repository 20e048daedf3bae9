-- Sets of numbers as the bits of words of 64 bits: bit k is in word k / 64, at place k % 64 from
-- the lowest.
use Rattle.std.specs.Prelude.{◌≡◌, ◌≤◌, ◌++◌, length, ℕ, zero, suc, ◌+◌, ◌*◌, ◌/◌, ◌%◌, ◌^◌, ◌<◌}
use Rattle.std.specs.Prelude.{Bool, false, List, [], ◌∷◌, slice_index, nat_eq, if◌then◌else◌}
use Rattle.std.specs.Int.{bit_at}
use Rattle.std.specs.Ordering.{nat_cmp}
use Rattle.std.specs.FinSet as set
use Rattle.std.specs.Hash as fed
use Rattle.mre_base.specs.Sets.{set_below, BitSet}

-- bit k is set
abbrev pub has_bit : List ℕ → ℕ → Bool
has_bit words k = nat_eq (bit_at (slice_index words (k / 64)) (k % 64)) 1

-- the numbers below a width whose bits are set
abbrev pub bits_below : ℕ → List ℕ → set.FinSet nat_cmp
bits_below width words = set_below (has_bit words) width

-- the bit of a difference number is set; that of number 1 is bit 0
abbrev pub has_place : List ℕ → ℕ → Bool
has_place words zero = false
has_place words (suc k) = has_bit words k

-- the difference numbers, 1 to 256, whose bits are set
abbrev pub places_in : List ℕ → set.FinSet nat_cmp
places_in words = set_below (has_place words) 257

-- the number of n bits whose bit i says whether the number `first + i` passes
unfoldable pub word_from : (ℕ → Bool) → ℕ → ℕ → ℕ
word_from passes first zero = 0
word_from passes first (suc n) =
    (if passes (first + n) then 1 else 0) * 2 ^ n + word_from passes first n

-- n words of 64 bits whose bit i says whether the number `first + i` passes
unfoldable pub words_from : (ℕ → Bool) → ℕ → ℕ → List ℕ
words_from passes first zero = []
words_from passes first (suc n) = word_from passes first 64 ∷ words_from passes (first + 64) n

-- the number of words that a width needs
abbrev pub words_for : ℕ → ℕ
words_for width = (width + 63) / 64

-- each word has 64 bits
abbrev pub AreWords : List ℕ → Type 0
AreWords words = (i : ℕ) → slice_index words i < 2 ^ 64

-- there are as many words as a width needs, and no bit from the width on is set
pub record HoldBits (width : ℕ) (words : List ℕ) : Type 0 where
  pub long : length words ≡ words_for width
  pub clear : (k : ℕ) → width ≤ k → has_bit words k ≡ false
  pub fits : width < 2 ^ 32

-- what a hash of a bit set reads: its width and its words
abbrev pub hash_of_bits : BitSet → List (List ℕ)
hash_of_bits bits =
    fed.u32 bits.width ++ fed.slice fed.u64 (words_from (set.contains bits.members) 0
    (words_for bits.width))
