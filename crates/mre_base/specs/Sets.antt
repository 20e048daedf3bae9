-- Finite sets of numbers: the set of the numbers below a bound that pass a test, a set's numbers in
-- ascending order, and the test of whether two sets are equal.
use Rattle.std.specs.Prelude.{ℕ, zero, suc, ◌<◌, ◌≤◌, Bool, ◌&&◌, IsTrue, nat_eq, if◌then◌else◌}
use Rattle.std.specs.Prelude.{List, filter, refl}
use Rattle.std.specs.Coded.{Coded, code_by, coded×, coded_ℕ}
use Rattle.std.specs.List.{range_with_len}
use Rattle.std.specs.Ordering.{nat_cmp}
use Rattle.std.specs.FinSet as set

-- the numbers below a bound that pass a test
unfoldable pub set_below : (ℕ → Bool) → ℕ → set.FinSet nat_cmp
set_below passes zero = set.empty
set_below passes (suc n) =
    if passes n then set.insert (set_below passes n) n else set_below passes n

-- the numbers below a bound that are in a set, in ascending order
abbrev pub numbers_below : ℕ → set.FinSet nat_cmp → List ℕ
numbers_below bound members = filter (set.contains members) (range_with_len 0 bound)

-- two sets have the same members
abbrev pub is_same_set : set.FinSet nat_cmp → set.FinSet nat_cmp → Bool
is_same_set one two = set.is_subset one two && set.is_subset two one

-- the members are numbers of differences, which are counted from 1 to 256
abbrev pub ArePlaces : set.FinSet nat_cmp → Type 0
ArePlaces members = (place : ℕ) → IsTrue (set.contains members place) → (1 ≤ place) × (place ≤ 256)

-- a width, and a set of numbers below it
pub record BitSet : Type 0 where
  pub width : ℕ
  pub members : set.FinSet nat_cmp

-- a bit set is stored as the pair of its parts
abbrev pub bit_set_code : Coded BitSet
bit_set_code =
    code_by (ℕ × set.FinSet nat_cmp) (coded× coded_ℕ (set.code coded_ℕ))
    (λ bits. (bits.width, bits.members)) (λ pair. record { width = pair.0; members = pair.1 })
    (λ _. refl)

-- each member is below the width
abbrev pub AreBelow : BitSet → Type 0
AreBelow bits = (i : ℕ) → IsTrue (set.contains bits.members i) → i < bits.width

-- two sets of one width have the same members
abbrev pub is_same_bit_set : BitSet → BitSet → Bool
is_same_bit_set one two = nat_eq one.width two.width && is_same_set one.members two.members
