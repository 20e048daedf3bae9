-- The three sets of a cube keep apart.
use Rattle.std.proofs.Common.{◌≡◌, ℕ, ◌+◌, ◌≤◌, Bool, true, false, ◌&&◌, ◌||◌, not, nat_eq, nat_le, nat_lt, refl, sym, ap, ◌∙◌, arith, inl, inr}
use Rattle.std.specs.Cmp.{nat_cmp_total}
use Rattle.std.specs.FinSet as set
use Rattle.std.specs.FinSet.{contains-difference, contains-is_subset, is_subset-contains, same_set, nat_cmp-IsAntisymmetric}
use Rattle.std.proofs.lemmas.Bool.{false≢true, and_parts, not_from_false, not_from_true, false_from_ne_true, and_from, eqb-true, or_cases}
use Rattle.std.proofs.lemmas.Bool.Decides.{nat_tests}
use Rattle.mre_base.proofs.SetsBelow.{contains-insert_nat, contains-remove_nat}
use Rattle.mre_base.proofs.Tests.{and_true}
use Rattle.cube_kit.specs.Cubes.{Told, CubeMeaning, IsWithin, is_listed, is_one_of, IsCube, is_at_most_one_of, IsApart, is_member, all_to, told_child, left_child}
use Rattle.cube_kit.proofs.CubeLemmas.{at_place, contains-all_to, member_from}

one_is_most : (d k : ℕ) (t l o : Bool) → d ≤ 256 → is_one_of (is_listed d k) t l o ≡ true → is_at_most_one_of (is_listed 256 k) t l o ≡ true
one_is_most d k t l o few one = grind (arith, nat_tests)

-- a cube over at most 256 numbers
pub cube_apart : (d : ℕ) (c : CubeMeaning) → d ≤ 256 → IsCube d c → IsApart c
cube_apart d c few cube k = one_is_most d k _ _ _ few (cube k)

move_told : (w e t l o : Bool) → (e ≡ true → o ≡ true) → is_at_most_one_of w t l o ≡ true → is_at_most_one_of w (e || t) l (not e && o) ≡ true
move_told w e t l o h one = grind arith

move_left : (w e t l o : Bool) → (e ≡ true → o ≡ true) → is_at_most_one_of w t l o ≡ true → is_at_most_one_of w t (e || l) (not e && o) ≡ true
move_left w e t l o h one = grind arith

at_most : (w t l o t' l' o' : Bool) → t' ≡ t → l' ≡ l → o' ≡ o → is_at_most_one_of w t l o ≡ true → is_at_most_one_of w t' l' o' ≡ true
at_most w t l o t' l' o' et el eo h = (λ i. is_at_most_one_of w (et i) (el i) (eo i)) ∙ h

pub told_apart : (c : CubeMeaning) (place : ℕ) → set.contains c.undecided place ≡ true → IsApart c → IsApart (told_child c place)
told_apart c place there apart k =
    at_most (is_listed 256 k) _ (set.contains c.left k) _ _ _ _ (contains-insert_nat c.told place k) refl (contains-remove_nat c.undecided place k)
    (move_told (is_listed 256 k) (nat_eq k place) _ _ _ (at_place c.undecided place k there) (apart k))

pub left_apart : (c : CubeMeaning) (place : ℕ) → set.contains c.undecided place ≡ true → IsApart c → IsApart (left_child c place)
left_apart c place there apart k =
    at_most (is_listed 256 k) (set.contains c.told k) _ _ _ _ _ refl (contains-insert_nat c.left place k) (contains-remove_nat c.undecided place k)
    (move_left (is_listed 256 k) (nat_eq k place) _ _ _ (at_place c.undecided place k there) (apart k))

-- a left number isn't told
told_out : (w t l o : Bool) → is_at_most_one_of w t l o ≡ true → l ≡ true → t ≡ false
told_out w t l o most left = grind arith

pub told_is_member : (c : CubeMeaning) → IsApart c → is_member c c.told ≡ true
told_is_member c apart = member_from c c.told (λ k there. there) (λ k left. told_out (is_listed 256 k) _ _ (set.contains c.undecided k) (apart k) left)

left_listed : (k : ℕ) (t l o : Bool) → is_at_most_one_of (is_listed 256 k) t l o ≡ true → l ≡ true → (1 ≤ k) × (k ≤ 256)
left_listed k t l o most left = grind (arith, nat_tests)

pub left_within : (c : CubeMeaning) → IsApart c → IsWithin 256 c.left
left_within c apart k there = left_listed k (set.contains c.told k) _ (set.contains c.undecided k) (apart k) there

-- ---- the numbers that a set lacks, found one after another
-- the second set has the numbers from 1 on, below the bound, that the first set lacks
pub record AreOthers (than others : Told) (bound : ℕ) : Type 0 where
  pub each : (k : ℕ) → set.contains others k ≡ ((nat_le 1 k && nat_lt k bound) && not (set.contains than k))

none_before : (k : ℕ) (b : Bool) → false ≡ ((nat_le 1 k && nat_lt k 1) && b)
none_before k b = grind (arith, nat_tests)

pub others_none : (than others : Told) → others ≡ set.empty → AreOthers than others 1
others_none than others e =
    record { each = λ k. ap (λ s. set.contains s k) e ∙ set.contains-empty _ k ∙ none_before k (not (set.contains than k)) }

one_more : (k n : ℕ) (b : Bool) → 1 ≤ n → (nat_eq k n ≡ true → b ≡ true) → (nat_eq k n || ((nat_le 1 k && nat_lt k n) && b)) ≡ ((nat_le 1 k && nat_lt k (n + 1)) && b)
one_more k n b low h = grind (arith, nat_tests)

none_more : (k n : ℕ) (b : Bool) → (nat_eq k n ≡ true → b ≡ false) → ((nat_le 1 k && nat_lt k n) && b) ≡ ((nat_le 1 k && nat_lt k (n + 1)) && b)
none_more k n b h = grind (arith, nat_tests)

pub others_more : (than others new : Told) (n : ℕ) → 1 ≤ n → set.contains than n ≡ false → new ≡ set.insert others n → AreOthers than others n → AreOthers than new (n + 1)
others_more than others new n low lacks e are =
    record {
      each = λ k.
          ap (λ s. set.contains s k) e ∙ contains-insert_nat others n k ∙ ap (λ b. nat_eq k n || b) (are.each k)
          ∙ one_more k n (not (set.contains than k)) low (λ same. not_from_false _ (ap (set.contains than) (eqb-true k n same) ∙ lacks));
    }

pub others_same : (than others new : Told) (n : ℕ) → set.contains than n ≡ true → new ≡ others → AreOthers than others n → AreOthers than new (n + 1)
others_same than others new n has e are =
    record { each = λ k. ap (λ s. set.contains s k) e ∙ are.each k ∙ none_more k n (not (set.contains than k)) (λ same. not_from_true _ (ap (set.contains than) (eqb-true k n same) ∙ has)) }

all_listed : (d n k : ℕ) (b : Bool) → d + 1 ≤ n → n ≤ d + 1 → ((nat_le 1 k && nat_lt k n) && b) ≡ (is_listed d k && b)
all_listed d n k b low high = grind (arith, nat_tests)

pub others_all : (d n : ℕ) (than others : Told) → d + 1 ≤ n → n ≤ d + 1 → AreOthers than others n → others ≡ set.difference (all_to d) than
others_all d n than others low high are =
    same_set nat_cmp_total nat_cmp-IsAntisymmetric others _ (λ k.
    are.each k ∙ all_listed d n k (not (set.contains than k)) low high
    ∙ sym (contains-difference nat_cmp_total (all_to d) than k ∙ ap (λ b. b && not (set.contains than k)) (contains-all_to d k)))

-- the numbers that the empty set lacks
pub difference-empty : (d : ℕ) (rest none : Told) → none ≡ set.empty → rest ≡ set.difference (all_to d) none → rest ≡ all_to d
difference-empty d rest none e is =
    same_set nat_cmp_total nat_cmp-IsAntisymmetric rest (all_to d) (λ k.
    ap (λ s. set.contains s k) is ∙ contains-difference nat_cmp_total (all_to d) none k
    ∙ ap (λ b. set.contains (all_to d) k && not b) (ap (λ s. set.contains s k) e ∙ set.contains-empty _ k) ∙ and_true _)

-- ---- two sets with a common number, and two without
pub apart_none : (one two : Told) (k : ℕ) → set.contains one k ≡ true → set.contains two k ≡ true → false ≡ set.is_subset one (set.difference one two)
apart_none one two k in_one in_two = sym (false_from_ne_true _ (λ sub.
    false≢true (sym (not_from_true _ in_two) ∙ (and_parts _ _ (sym (contains-difference nat_cmp_total one two k) ∙ is_subset-contains nat_cmp_total one _ sub k in_one)).1)))

pub apart_all : (one two : Told) → ((k : ℕ) → set.contains one k ≡ true → set.contains two k ≡ false) → true ≡ set.is_subset one (set.difference one two)
apart_all one two lacks =
    sym (contains-is_subset nat_cmp_total one _ (λ k there. contains-difference nat_cmp_total one two k ∙ and_from _ _ there (not_from_false _ (lacks k there))))

-- ---- cubes part by part
pub same_cube : (t l o t' l' o' : Told) → t ≡ t' → l ≡ l' → o ≡ o' → ◌≡◌ {A = CubeMeaning} (record { told = t; left = l; undecided = o }) (record { told = t'; left = l'; undecided = o' })
same_cube t l o t' l' o' et el eo = λ i. record { told = et i; left = el i; undecided = eo i }

-- ---- sets within 1 to d, built one number after another
pub within_none : (d : ℕ) (s : Told) → s ≡ set.empty → IsWithin d s
within_none d s e k there = absurd (false≢true (sym (ap (λ t. set.contains t k) e ∙ set.contains-empty _ k) ∙ there))

pub within_more : (d n : ℕ) (s t : Told) → 1 ≤ n → n ≤ d → t ≡ set.insert s n → IsWithin d s → IsWithin d t
within_more d n s t low high e within k there =
    elim (or_cases _ _ (sym (ap (λ u. set.contains u k) e ∙ contains-insert_nat s n k) ∙ there)) [
      | inl same ↦ (omega (arith, eqb-true k n same), omega (arith, eqb-true k n same))
      | inr h ↦ within k h
    ]
