-- Cubes of sets of difference numbers. Some numbers of a cube are told, some are left, and the
-- others are undecided; its members are the sets that have all told numbers and no left number.
use Rattle.std.specs.Prelude.{ℕ, ◌≡◌, ◌≤◌, Bool, true, ◌&&◌, not, if◌then◌else◌, nat_le, refl}
use Rattle.std.specs.Ordering.{nat_cmp}
use Rattle.std.specs.List.{range_with_len}
use Rattle.std.specs.Coded.{Coded, code_by, coded×, coded_ℕ}
use Rattle.std.specs.FinSet as set

-- a set of difference numbers
abbrev pub Told : Type 0
Told = set.FinSet nat_cmp

-- a cube, as its three sets
pub record CubeMeaning : Type 0 where
  pub told : set.FinSet nat_cmp
  pub left : set.FinSet nat_cmp
  pub undecided : set.FinSet nat_cmp

-- a cube is stored as the triple of its sets
abbrev pub cube_code : Coded CubeMeaning
cube_code =
    code_by (set.FinSet nat_cmp × (set.FinSet nat_cmp × set.FinSet nat_cmp))
    (coded× (set.code coded_ℕ) (coded× (set.code coded_ℕ) (set.code coded_ℕ)))
    (λ c. (c.told, (c.left, c.undecided)))
    (λ p. record { told = p.0; left = p.1.0; undecided = p.1.1 }) (λ _. refl)

-- the number is one of 1 to d
abbrev pub is_listed : ℕ → ℕ → Bool
is_listed d k = nat_le 1 k && nat_le k d

-- each number of the set is one of 1 to d
abbrev pub IsWithin : ℕ → Told → Type 0
IsWithin d s = (k : ℕ) → set.contains s k ≡ true → (1 ≤ k) × (k ≤ d)

-- exactly one of three tests passes for a listed number, and no test for another number
abbrev pub is_one_of : Bool → Bool → Bool → Bool → Bool
is_one_of listed told left undecided =
    if listed
    then (if told then not left && not undecided else if left then not undecided else undecided)
    else (not told && (not left && not undecided))

-- the three sets split the numbers from 1 to d
abbrev pub IsCube : ℕ → CubeMeaning → Type 0
IsCube d c =
    (k : ℕ) → is_one_of (is_listed d k) (set.contains c.told k) (set.contains c.left k)
    (set.contains c.undecided k) ≡ true

-- at most one of three tests passes for a listed number, and no test for another number
abbrev pub is_at_most_one_of : Bool → Bool → Bool → Bool → Bool
is_at_most_one_of listed told left undecided =
    if listed then (if told then not left && not undecided else not (left && undecided))
    else (not told && (not left && not undecided))

-- the three sets have no common number, and only numbers from 1 to 256
abbrev pub IsApart : CubeMeaning → Type 0
IsApart c =
    (k : ℕ) → is_at_most_one_of (is_listed 256 k) (set.contains c.told k) (set.contains c.left k)
    (set.contains c.undecided k) ≡ true

-- the set has all told numbers and no left number
abbrev pub is_member : CubeMeaning → Told → Bool
is_member c s = set.is_subset c.told s && set.is_subset c.left (set.difference c.left s)

-- the numbers from 1 to d
abbrev pub all_to : ℕ → Told
all_to d = set.from_list (range_with_len 1 d)

-- the cube with all numbers undecided
abbrev pub root : ℕ → CubeMeaning
root d = record { told = set.empty; left = set.empty; undecided = all_to d }

-- the cube whose only member is the set
abbrev pub single : ℕ → Told → CubeMeaning
single d s = record { told = s; left = set.difference (all_to d) s; undecided = set.empty }

-- the cube whose members are the sets that contain the set
abbrev pub above : ℕ → Told → CubeMeaning
above d s = record { told = s; left = set.empty; undecided = set.difference (all_to d) s }

-- the cube with one more number told
abbrev pub told_child : CubeMeaning → ℕ → CubeMeaning
told_child c place =
    record {
      told = set.insert c.told place;
      left = c.left;
      undecided = set.remove c.undecided place;
    }

-- the cube with one more number left
abbrev pub left_child : CubeMeaning → ℕ → CubeMeaning
left_child c place =
    record {
      told = c.told;
      left = set.insert c.left place;
      undecided = set.remove c.undecided place;
    }

-- each number told in the second cube is told in the first, and so are the left ones left, so that
-- each member of the first cube is a member of the second
abbrev pub is_inside : CubeMeaning → CubeMeaning → Bool
is_inside e c = set.is_subset c.told e.told && set.is_subset c.left e.left
