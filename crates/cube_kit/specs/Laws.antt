-- The laws of the order of sets and of cubes.
use Rattle.std.specs.Prelude.{ℕ, ◌+◌, ◌≡◌, ◌≤◌, true, false, ◌&&◌, not, cond, List, length, take}
use Rattle.std.specs.Prelude.{replicate, ◌⊎◌}
use Rattle.std.specs.FinSet as set
use Rattle.mre_base.specs.Before.{numbers, is_smaller, is_before}
use Rattle.cube_kit.specs.Weighing.{AreWeights}
use Rattle.cube_kit.specs.Cubes.{Told, CubeMeaning, IsWithin, IsCube, is_member, is_inside, root}
use Rattle.cube_kit.specs.Cubes.{single, above, told_child, left_child}

-- the order of sets is strict and total, and a set is before each greater one; weights beyond the
-- sets' numbers play no part; if every weight is 1, the order is by size and then by numbers
pub record OrderLaw : Type 0 where
  pub one_way : (weights : List ℕ) (a b : Told) → is_before weights a b ≡ true
      → is_before weights b a ≡ false
  pub trans : (weights : List ℕ) (a b c : Told) → is_before weights a b ≡ true
      → is_before weights b c ≡ true → is_before weights a c ≡ true
  pub total : (weights : List ℕ) (a b : Told)
      → IsWithin (length weights) a → IsWithin (length weights) b
      → (a ≡ b) ⊎ (is_before weights a b ≡ true) ⊎ (is_before weights b a ≡ true)
  pub greater : (weights : List ℕ) (a b : Told) → AreWeights weights → IsWithin (length weights) b
      → set.is_subset a b ≡ true → (a ≡ b) ⊎ (is_before weights a b ≡ true)
  pub narrow : (weights : List ℕ) (d : ℕ) (a b : Told) → d ≤ length weights
      → IsWithin d a → IsWithin d b → is_before (take d weights) a b ≡ is_before weights a b
  pub even : (d : ℕ) (a b : Told) → is_before (replicate d 1) a b
      ≡ is_smaller (numbers d a) (numbers d b)

-- the laws of cubes: which sets are members, and that inner cubes, children and single cubes have
-- only members of the cube
pub record CubeLaw : Type 0 where
  pub root_has : (d : ℕ) (s : Told) → is_member (root d) s ≡ true
  pub single_has : (d : ℕ) (s t : Told) → IsWithin d t → is_member (single d s) t ≡ true → s ≡ t
  pub above_has : (d : ℕ) (s t : Told) → is_member (above d s) t ≡ set.is_subset s t
  pub told_has : (c : CubeMeaning) (place : ℕ) (s : Told)
      → is_member (told_child c place) s ≡ (is_member c s && set.contains s place)
  pub left_has : (c : CubeMeaning) (place : ℕ) (s : Told)
      → is_member (left_child c place) s ≡ (is_member c s && not (set.contains s place))
  pub one_child : (c : CubeMeaning) (place : ℕ) (s : Told)
      → cond (is_member (told_child c place) s) 1 0 + cond (is_member (left_child c place) s) 1 0
      ≡ cond (is_member c s) 1 0
  pub told_inside : (c : CubeMeaning) (place : ℕ) → is_inside (told_child c place) c ≡ true
  pub left_inside : (c : CubeMeaning) (place : ℕ) → is_inside (left_child c place) c ≡ true
  pub inside_trans : (b c e : CubeMeaning) → is_inside b c ≡ true → is_inside c e ≡ true
      → is_inside b e ≡ true
  pub inside_has : (c e : CubeMeaning) (s : Told) → is_inside e c ≡ true → is_member e s ≡ true
      → is_member c s ≡ true
  pub single_inside : (d : ℕ) (c : CubeMeaning) (s : Told) → IsCube d c → is_member c s ≡ true
      → is_inside (single d s) c ≡ true
  pub root_cube : (d : ℕ) → IsCube d (root d)
  pub single_cube : (d : ℕ) (s : Told) → IsWithin d s → IsCube d (single d s)
  pub above_cube : (d : ℕ) (s : Told) → IsWithin d s → IsCube d (above d s)
  pub told_cube : (d : ℕ) (c : CubeMeaning) (place : ℕ) → set.contains c.undecided place ≡ true
      → IsCube d c → IsCube d (told_child c place)
  pub left_cube : (d : ℕ) (c : CubeMeaning) (place : ℕ) → set.contains c.undecided place ≡ true
      → IsCube d c → IsCube d (left_child c place)
  pub told_is_member : (d : ℕ) (c : CubeMeaning) → IsCube d c → is_member c c.told ≡ true
  pub told_is_within : (d : ℕ) (c : CubeMeaning) → IsCube d c → IsWithin d c.told
  pub told_is_first : (weights : List ℕ) (c : CubeMeaning) (s : Told) → AreWeights weights
      → IsWithin (length weights) s → is_member c s ≡ true
      → (c.told ≡ s) ⊎ (is_before weights c.told s ≡ true)
