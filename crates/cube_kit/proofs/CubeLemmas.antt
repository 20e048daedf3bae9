-- Cubes and their members, number by number.
use Rattle.std.proofs.Common.{◌≡◌, ℕ, ◌+◌, ◌≤◌, Bool, true, false, ◌&&◌, ◌||◌, not, cond, List, length, nat_eq, refl, sym, ap, ◌∙◌, arith, ◌⊎◌, inl, inr}
use Rattle.std.specs.List.{range_with_len}
use Rattle.std.specs.Ordering.{nat_cmp}
use Rattle.std.specs.Cmp.{nat_cmp_total}
use Rattle.std.specs.FinSet as set
use Rattle.std.specs.FinSet.{same_set, is_subset-contains, contains-is_subset, contains-empty, contains-difference, contains-from_list_nat, nat_cmp-IsAntisymmetric}
use Rattle.std.proofs.lemmas.Bool.{and_parts, and_from, eqb-true, false≢true, not_from_false, not-true}
use Rattle.std.proofs.lemmas.Bool.Decides.{nat_tests}
use Rattle.mre_base.specs.Before.{is_before}
use Rattle.mre_base.proofs.SetsBelow.{contains-insert_nat, contains-remove_nat, has_inserted, has_before, insert_cases}
use Rattle.mre_base.proofs.Tests.{same_test}
use Rattle.cube_kit.specs.Cubes.{Told, CubeMeaning, IsWithin, is_listed, is_one_of, IsCube, is_member, is_inside, all_to, root, single, above, told_child, left_child}
use Rattle.cube_kit.specs.Laws.{CubeLaw}
use Rattle.cube_kit.specs.Weighing.{AreWeights}
use Rattle.cube_kit.proofs.OrderLemmas.{before_greater}
use Rattle.cube_kit.proofs.RangeLemmas.{is_in_range, any-range}

pub contains-all_to : (d k : ℕ) → set.contains (all_to d) k ≡ is_listed d k
contains-all_to d k = contains-from_list_nat (range_with_len 1 d) k ∙ any-range 1 d k ∙ in_list where
  in_list : is_in_range 1 d k ≡ is_listed d k
  in_list = grind (arith, nat_tests)

-- a member has each told number
pub member_has : (c : CubeMeaning) (s : Told) → is_member c s ≡ true → (k : ℕ) → set.contains c.told k ≡ true → set.contains s k ≡ true
member_has c s is k told = is_subset-contains nat_cmp_total c.told s (and_parts _ _ is).0 k told

-- a member has no left number
pub member_lacks : (c : CubeMeaning) (s : Told) → is_member c s ≡ true → (k : ℕ) → set.contains c.left k ≡ true → set.contains s k ≡ false
member_lacks c s is k left =
    not-true _ (and_parts _ _ (sym (contains-difference nat_cmp_total c.left s k) ∙ is_subset-contains nat_cmp_total c.left (set.difference c.left s) (and_parts _ _ is).1 k left)).1

pub member_from : (c : CubeMeaning) (s : Told) → ((k : ℕ) → set.contains c.told k ≡ true → set.contains s k ≡ true) → ((k : ℕ) → set.contains c.left k ≡ true → set.contains s k ≡ false) → is_member c s ≡ true
member_from c s has lacks =
    and_from _ _ (contains-is_subset nat_cmp_total c.told s has)
    (contains-is_subset nat_cmp_total c.left (set.difference c.left s) (λ k left. contains-difference nat_cmp_total c.left s k ∙ and_from _ _ left (not_from_false _ (lacks k left))))

-- the set has no left number
abbrev is_clear : Told → Told → Bool
is_clear left s = set.is_subset left (set.difference left s)

clear_lacks : (left s : Told) → is_clear left s ≡ true → (k : ℕ) → set.contains left k ≡ true → set.contains s k ≡ false
clear_lacks left s clear k there = member_lacks (record { told = set.empty; left = left; undecided = set.empty }) s (and_from _ _ (contains-is_subset nat_cmp_total _ s (λ q h. absurd (false≢true (sym (contains-empty nat_cmp q) ∙ h)))) clear) k there

lacks_clear : (left s : Told) → ((k : ℕ) → set.contains left k ≡ true → set.contains s k ≡ false) → is_clear left s ≡ true
lacks_clear left s lacks = (and_parts _ _ (member_from (record { told = set.empty; left = left; undecided = set.empty }) s (λ k h. absurd (false≢true (sym (contains-empty nat_cmp k) ∙ h))) lacks)).1

subset-insert : (a s : Told) (p : ℕ) → set.is_subset (set.insert a p) s ≡ (set.is_subset a s && set.contains s p)
subset-insert a s p =
    same_test _ _
    (λ sub. and_from _ _ (contains-is_subset nat_cmp_total a s (λ k there. is_subset-contains nat_cmp_total _ s sub k (has_before a p k there))) (is_subset-contains nat_cmp_total _ s sub p (has_inserted a p)))
    (λ both. contains-is_subset nat_cmp_total _ s (λ k there.
    elim (insert_cases a p k there) [
      | inl e ↦ ap (set.contains s) e ∙ (and_parts _ _ both).1
      | inr h ↦ is_subset-contains nat_cmp_total a s (and_parts _ _ both).0 k h
    ]))

clear-insert : (left s : Told) (p : ℕ) → is_clear (set.insert left p) s ≡ (is_clear left s && not (set.contains s p))
clear-insert left s p =
    same_test _ _
    (λ clear. and_from _ _ (lacks_clear left s (λ k there. clear_lacks _ s clear k (has_before left p k there))) (not_from_false _ (clear_lacks _ s clear p (has_inserted left p))))
    (λ both. lacks_clear _ s (λ k there.
    elim (insert_cases left p k there) [
      | inl e ↦ ap (set.contains s) e ∙ not-true _ (and_parts _ _ both).1
      | inr h ↦ clear_lacks left s (and_parts _ _ both).0 k h
    ]))

and_last : (a b c : Bool) → ((a && b) && c) ≡ ((a && c) && b)
and_last true true true = refl
and_last true true false = refl
and_last true false true = refl
and_last true false false = refl
and_last false b c = refl

and_assoc : (a b c : Bool) → (a && (b && c)) ≡ ((a && b) && c)
and_assoc true b c = refl
and_assoc false b c = refl

pub told_has : (c : CubeMeaning) (place : ℕ) (s : Told) → is_member (told_child c place) s ≡ (is_member c s && set.contains s place)
told_has c place s = ap (λ b. b && is_clear c.left s) (subset-insert c.told s place) ∙ and_last (set.is_subset c.told s) (set.contains s place) (is_clear c.left s)

pub left_has : (c : CubeMeaning) (place : ℕ) (s : Told) → is_member (left_child c place) s ≡ (is_member c s && not (set.contains s place))
left_has c place s = ap (λ b. set.is_subset c.told s && b) (clear-insert c.left s place) ∙ and_assoc (set.is_subset c.told s) (is_clear c.left s) (not (set.contains s place))

counted : (m h : Bool) → cond (m && h) 1 0 + cond (m && not h) 1 0 ≡ cond m 1 0
counted true true = refl
counted true false = refl
counted false h = refl

one_child : (c : CubeMeaning) (place : ℕ) (s : Told) → cond (is_member (told_child c place) s) 1 0 + cond (is_member (left_child c place) s) 1 0 ≡ cond (is_member c s) 1 0
one_child c place s = (λ i. cond (told_has c place s i) 1 0 + cond (left_has c place s i) 1 0) ∙ counted (is_member c s) (set.contains s place)

empty_has : (k : ℕ) → set.contains (set.empty {R = nat_cmp}) k ≡ true → ⊥
empty_has k h = false≢true (sym (contains-empty nat_cmp k) ∙ h)

pub root_has : (d : ℕ) (s : Told) → is_member (root d) s ≡ true
root_has d s = member_from (root d) s (λ k h. absurd (empty_has k h)) (λ k h. absurd (empty_has k h))

pub above_has : (d : ℕ) (s t : Told) → is_member (above d s) t ≡ set.is_subset s t
above_has d s t = same_test _ _ (λ is. (and_parts _ _ is).0) (λ sub. member_from (above d s) t (λ k there. is_subset-contains nat_cmp_total s t sub k there) (λ k h. absurd (empty_has k h)))

pub single_has : (d : ℕ) (s t : Told) → IsWithin d t → is_member (single d s) t ≡ true → s ≡ t
single_has d s t within is =
    same_set nat_cmp_total nat_cmp-IsAntisymmetric s t (λ k. same_test _ _ (member_has (single d s) t is k) (λ there.
    by (set.contains s k) (λ out. false≢true (sym (member_lacks (single d s) t is k (contains-difference nat_cmp_total (all_to d) s k ∙ and_from _ _ (contains-all_to d k ∙ listed k (within k there)) (not_from_false _ out))) ∙ there))))
  where
    by : (b : Bool) → (b ≡ false → ⊥) → b ≡ true
    by true h = refl
    by false h = absurd (h refl)

    listed : (k : ℕ) → (1 ≤ k) × (k ≤ d) → is_listed d k ≡ true
    listed k h = grind (arith, nat_tests)

subset-itself : (s : Told) → set.is_subset s s ≡ true
subset-itself s = contains-is_subset nat_cmp_total s s (λ k there. there)

subset-inserted : (s : Told) (p : ℕ) → set.is_subset s (set.insert s p) ≡ true
subset-inserted s p = contains-is_subset nat_cmp_total s _ (has_before s p)

subset-trans : (s t u : Told) → set.is_subset s t ≡ true → set.is_subset t u ≡ true → set.is_subset s u ≡ true
subset-trans s t u st tu =
    contains-is_subset nat_cmp_total s u (λ q has. is_subset-contains nat_cmp_total t u tu q (is_subset-contains nat_cmp_total s t st q has))

told_inside : (c : CubeMeaning) (place : ℕ) → is_inside (told_child c place) c ≡ true
told_inside c place = and_from _ _ (subset-inserted c.told place) (subset-itself c.left)

left_inside : (c : CubeMeaning) (place : ℕ) → is_inside (left_child c place) c ≡ true
left_inside c place = and_from _ _ (subset-itself c.told) (subset-inserted c.left place)

inside_trans : (b c e : CubeMeaning) → is_inside b c ≡ true → is_inside c e ≡ true → is_inside b e ≡ true
inside_trans b c e bc ce =
    and_from _ _ (subset-trans e.told c.told b.told (and_parts _ _ ce).0 (and_parts _ _ bc).0) (subset-trans e.left c.left b.left (and_parts _ _ ce).1 (and_parts _ _ bc).1)

inside_has : (c e : CubeMeaning) (s : Told) → is_inside e c ≡ true → is_member e s ≡ true → is_member c s ≡ true
inside_has c e s inside is =
    member_from c s
    (λ k told. member_has e s is k (is_subset-contains nat_cmp_total c.told e.told (and_parts _ _ inside).0 k told))
    (λ k left. member_lacks e s is k (is_subset-contains nat_cmp_total c.left e.left (and_parts _ _ inside).1 k left))

-- what follows for each set from a test of all three
left_listed : (listed t l o : Bool) → is_one_of listed t l o ≡ true → l ≡ true → (listed ≡ true) × (t ≡ false)
left_listed true true true o h e = absurd (false≢true h)
left_listed true false true o h e = (refl, refl)
left_listed true t false o h e = absurd (false≢true e)
left_listed false t l o h e = grind arith

told_listed : (listed t l o : Bool) → is_one_of listed t l o ≡ true → t ≡ true → listed ≡ true
told_listed true t l o h e = refl
told_listed false true l o h e = h
told_listed false false l o h e = e

told_not_left : (listed t l o : Bool) → is_one_of listed t l o ≡ true → l ≡ true → t ≡ false
told_not_left listed t l o h e = (left_listed listed t l o h e).1

single_inside : (d : ℕ) (c : CubeMeaning) (s : Told) → IsCube d c → is_member c s ≡ true → is_inside (single d s) c ≡ true
single_inside d c s cube is =
    and_from _ _ (and_parts _ _ is).0
    (contains-is_subset nat_cmp_total c.left _ (λ k left.
    contains-difference nat_cmp_total (all_to d) s k
    ∙ and_from _ _ (contains-all_to d k ∙ (left_listed _ (set.contains c.told k) _ (set.contains c.undecided k) (cube k) left).0) (not_from_false _ (member_lacks c s is k left))))

pub told_is_member : (d : ℕ) (c : CubeMeaning) → IsCube d c → is_member c c.told ≡ true
told_is_member d c cube = member_from c c.told (λ k there. there) (λ k left. told_not_left (is_listed d k) _ _ (set.contains c.undecided k) (cube k) left)

told_is_within : (d : ℕ) (c : CubeMeaning) → IsCube d c → IsWithin d c.told
told_is_within d c cube k there = listed (told_listed (is_listed d k) _ (set.contains c.left k) (set.contains c.undecided k) (cube k) there) where
  listed : is_listed d k ≡ true → (1 ≤ k) × (k ≤ d)
  listed h = grind (arith, nat_tests)

pub told_is_first : (weights : List ℕ) (c : CubeMeaning) (s : Told) → AreWeights weights → IsWithin (length weights) s → is_member c s ≡ true → (c.told ≡ s) ⊎ (is_before weights c.told s ≡ true)
told_is_first weights c s heavy within is = before_greater weights c.told s heavy within (and_parts _ _ is).0

-- the test of three sets, of other sets with the same answers
pub one_of : (w t l o t' l' o' : Bool) → t' ≡ t → l' ≡ l → o' ≡ o → is_one_of w t l o ≡ true → is_one_of w t' l' o' ≡ true
one_of w t l o t' l' o' et el eo h = (λ i. is_one_of w (et i) (el i) (eo i)) ∙ h

pub root_cube : (d : ℕ) → IsCube d (root d)
root_cube d k = one_of (is_listed d k) false false (is_listed d k) _ _ _ (contains-empty nat_cmp k) (contains-empty nat_cmp k) (contains-all_to d k) (by (is_listed d k)) where
  by : (w : Bool) → is_one_of w false false w ≡ true
  by true = refl
  by false = refl

split_listed : (d k : ℕ) (b : Bool) → (b ≡ true → (1 ≤ k) × (k ≤ d)) → is_one_of (is_listed d k) b (is_listed d k && not b) false ≡ true
split_listed d k b h = grind (arith, nat_tests)

split_above : (d k : ℕ) (b : Bool) → (b ≡ true → (1 ≤ k) × (k ≤ d)) → is_one_of (is_listed d k) b false (is_listed d k && not b) ≡ true
split_above d k b h = grind (arith, nat_tests)

rest_of : (d : ℕ) (s : Told) (k : ℕ) → set.contains (set.difference (all_to d) s) k ≡ (is_listed d k && not (set.contains s k))
rest_of d s k = contains-difference nat_cmp_total (all_to d) s k ∙ ap (λ b. b && not (set.contains s k)) (contains-all_to d k)

pub single_cube : (d : ℕ) (s : Told) → IsWithin d s → IsCube d (single d s)
single_cube d s within k = one_of (is_listed d k) (set.contains s k) _ false _ _ _ refl (rest_of d s k) (contains-empty nat_cmp k) (split_listed d k (set.contains s k) (within k))

pub above_cube : (d : ℕ) (s : Told) → IsWithin d s → IsCube d (above d s)
above_cube d s within k = one_of (is_listed d k) (set.contains s k) false _ _ _ _ refl (contains-empty nat_cmp k) (rest_of d s k) (split_above d k (set.contains s k) (within k))

-- a number moves from one set to another
move_told : (w e t l o : Bool) → (e ≡ true → o ≡ true) → is_one_of w t l o ≡ true → is_one_of w (e || t) l (not e && o) ≡ true
move_told w e t l o h one = grind arith

move_left : (w e t l o : Bool) → (e ≡ true → o ≡ true) → is_one_of w t l o ≡ true → is_one_of w t (e || l) (not e && o) ≡ true
move_left w e t l o h one = grind arith

pub at_place : (s : Told) (place k : ℕ) → set.contains s place ≡ true → nat_eq k place ≡ true → set.contains s k ≡ true
at_place s place k there e = ap (set.contains s) (eqb-true k place e) ∙ there

pub told_cube : (d : ℕ) (c : CubeMeaning) (place : ℕ) → set.contains c.undecided place ≡ true → IsCube d c → IsCube d (told_child c place)
told_cube d c place there cube k =
    one_of (is_listed d k) _ (set.contains c.left k) _ _ _ _ (contains-insert_nat c.told place k) refl (contains-remove_nat c.undecided place k)
    (move_told (is_listed d k) (nat_eq k place) _ _ _ (at_place c.undecided place k there) (cube k))

pub left_cube : (d : ℕ) (c : CubeMeaning) (place : ℕ) → set.contains c.undecided place ≡ true → IsCube d c → IsCube d (left_child c place)
left_cube d c place there cube k =
    one_of (is_listed d k) (set.contains c.told k) _ _ _ _ _ refl (contains-insert_nat c.left place k) (contains-remove_nat c.undecided place k)
    (move_left (is_listed d k) (nat_eq k place) _ _ _ (at_place c.undecided place k there) (cube k))

pub cube_law : CubeLaw
cube_law =
    record {
      root_has = root_has;
      single_has = single_has;
      above_has = above_has;
      told_has = told_has;
      left_has = left_has;
      one_child = one_child;
      told_inside = told_inside;
      left_inside = left_inside;
      inside_trans = inside_trans;
      inside_has = inside_has;
      single_inside = single_inside;
      root_cube = root_cube;
      single_cube = single_cube;
      above_cube = above_cube;
      told_cube = told_cube;
      left_cube = left_cube;
      told_is_member = told_is_member;
      told_is_within = told_is_within;
      told_is_first = told_is_first;
    }
