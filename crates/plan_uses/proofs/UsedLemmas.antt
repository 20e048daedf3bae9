-- The test of used places agrees with the definition, and the loop's set has the numbers that pass it.
use Rattle.std.proofs.Common.{◌≡◌, ℕ, ◌+◌, ◌-◌, ◌<◌, ◌≤◌, ◌==◌, zero, suc, Bool, true, false, if◌then◌else◌, nat_lt, ◌↔◌, inl, inr, List, ◌∷◌, length, Option, None, Some, refl, sym, ap, ◌∙◌, arith, add-one}
use Rattle.std.specs.Prelude.{slice_get, IsSomeAnd, IsTrue, Any, Contains}
use Rattle.std.specs.Bool.{Decides}
use Rattle.std.specs.List.{list_any, filter, range_with_len}
use Rattle.std.specs.Option.{option_map, option_map_or}
use Rattle.std.specs.Ordering.{nat_cmp}
use Rattle.std.specs.FinSet as set
use Rattle.std.proofs.lemmas.Bool.{eqb-true, eq-eqb, and_parts, cases_order}
use Rattle.std.proofs.lemmas.List.Elements.{All-contains, filter_passes}
use Rattle.std.proofs.lemmas.List.Folds.{Any-from_list_any, list_any-from_Any}
use Rattle.std.proofs.lemmas.Option.{slice_get-map, slice_get_within}
use Rattle.mre_base.specs.Before.{numbers}
use Rattle.mre_base.specs.Sets.{set_below}
use Rattle.mre_base.proofs.ListOrder.{filter-agree}
use Rattle.mre_base.proofs.SetsBelow.{contains-set_below, member}
use Rattle.model_kit.specs.declared.action.GroundAction.{GroundAction}
use Rattle.model_kit.specs.Places.{Place}
use Rattle.feature_diff.specs.declared.difference.Difference.{Difference}
use Rattle.feature_diff.specs.Differing.{place_of, places_of}
use Rattle.plan_uses.specs.Uses.{action_of, IsUsed, IsUsedAt, AreUsed, is_used, is_used_at, used_numbers}

-- ---- the set of the loop

pub put_in : (p : ℕ → Bool) (n : ℕ) (old new : set.FinSet nat_cmp) → old ≡ set_below p n → p n ≡ true → new ≡ set.insert old n → new ≡ set_below p (n + 1)
unfolding set_below
put_in p n old new before passes is =
    is
    ∙ ap (λ s. set.insert s n) before
    ∙ sym (ap (λ b. if b then set.insert (set_below p n) n else set_below p n) passes)
    ∙ ap (set_below p) (sym (add-one n))

pub left_out : (p : ℕ → Bool) (n : ℕ) (old new : set.FinSet nat_cmp) → old ≡ set_below p n → p n ≡ false → new ≡ old → new ≡ set_below p (n + 1)
unfolding set_below
left_out p n old new before fails is =
    is
    ∙ before
    ∙ sym (ap (λ b. if b then set.insert (set_below p n) n else set_below p n) fails)
    ∙ ap (set_below p) (sym (add-one n))

-- before the first number the set is empty
pub none_before : (plan : List GroundAction) (places : List Place) (none : set.FinSet nat_cmp) → none ≡ set.empty → none ≡ set_below (is_used_at plan places) 1
unfolding set_below
none_before plan places none is = is

-- the test at a difference's number is the test of its place
pub test_at : (plan : List GroundAction) (differences : List Difference) (n : ℕ) (difference : Difference) → slice_get differences n ≡ Some difference
    → is_used_at plan (places_of differences) (n + 1) ≡ is_used plan (place_of difference)
test_at plan differences n difference at =
    ap (is_used_at plan (places_of differences)) (add-one n)
    ∙ ap (λ o. option_map_or (is_used plan) o false) (slice_get-map place_of differences n ∙ ap (option_map place_of) at)

-- ---- a range of numbers

-- a number of the range that passes the test is kept
kept : (p : ℕ → Bool) (a n q : ℕ) → a ≤ q → q < a + n → p q ≡ true → Contains (filter p (range_with_len a n)) q
kept p a zero q low high passes = absurd (omega arith)
kept p a (suc n) q low high passes =
    elim (cases_order q a) [
      | inl same ↦ first (p a) (sym (ap p same) ∙ passes) same
      | inr other ↦ elim other [
        | inl below ↦ absurd (omega arith)
        | inr above ↦ later (p a) (kept p (a + 1) n q (omega arith) (omega arith) passes)
      ]
    ]
  where
    rest : List ℕ
    rest = filter p (range_with_len (a + 1) n)

    first : (b : Bool) → b ≡ true → q ≡ a → Contains (if b then a ∷ rest else rest) q
    first true e same = (0, omega arith, sym same)
    first false e same = absurd (cc)

    later : (b : Bool) → Contains rest q → Contains (if b then a ∷ rest else rest) q
    later true c = (suc c.0, (let within = c.1 in omega arith), c.2)
    later false c = c

-- ---- the test agrees with the definition

used_by : (plan : List GroundAction) (o : Option ℕ)
    → Decides (option_map_or (λ action. list_any (λ step. step.schema == action) plan) o false) (IsSomeAnd o (λ action. Any (λ step. step.schema ≡ action) plan))
used_by plan None = (λ e. absurd (cc), λ h. absurd h)
used_by plan (Some action) = (
  λ e. let a = Any-from_list_any (λ (step : GroundAction). step.schema == action) plan e in (a.0, a.1, a.2, a.3, eqb-true _ _ a.4),
  λ a. list_any-from_Any (λ (step : GroundAction). step.schema == action) plan (a.0, a.1, a.2, a.3, eq-eqb _ _ a.4),
)

pub is_used-Decides : (plan : List GroundAction) (place : Place) → Decides (is_used plan place) (IsUsed plan place)
is_used-Decides plan place = used_by plan (action_of place)

module _ (plan : List GroundAction) (places : List Place) where
  pub IsUsedAt-from_test : (number : ℕ) → is_used_at plan places number ≡ true → IsUsedAt plan places number
  IsUsedAt-from_test zero e = absurd (cc)
  IsUsedAt-from_test (suc n) e = found (slice_get places n) refl e
    where
      found : (o : Option Place) → slice_get places n ≡ o → option_map_or (is_used plan) o false ≡ true → IsUsedAt plan places (suc n)
      found None at passes = absurd (cc)
      found (Some place) at passes =
          let back : suc n - 1 ≡ n = omega arith in
          record { place = place; counted = omega arith; here = ap (slice_get places) back ∙ at; used = (is_used-Decides plan place).0 passes }

  pub test-from_IsUsedAt : (number : ℕ) → IsUsedAt plan places number → is_used_at plan places number ≡ true
  test-from_IsUsedAt zero h = absurd (let low = h.counted in omega arith)
  test-from_IsUsedAt (suc n) h =
      let back : suc n - 1 ≡ n = omega arith in
      ap (λ o. option_map_or (is_used plan) o false) (sym (ap (slice_get places) back) ∙ h.here) ∙ (is_used-Decides plan h.place).1 h.used

  -- a used number is the number of a place
  pub used_within : (number : ℕ) → IsUsedAt plan places number → (1 ≤ number) × (number ≤ length places)
  used_within number h =
      let low = h.counted in
      let within = slice_get_within places (number - 1) h.place h.here in
      (low, omega arith)

  -- ---- the list of the numbers

  pub listed-IsUsedAt : (number : ℕ) → Contains (used_numbers plan places) number ↔ IsUsedAt plan places number
  listed-IsUsedAt number = (
    λ listed. IsUsedAt-from_test number (All-contains (λ n. is_used_at plan places n ≡ true) (used_numbers plan places) number (filter_passes (is_used_at plan places) (range_with_len 1 (length places))) listed),
    λ used. let within = used_within number used in kept (is_used_at plan places) 1 (length places) number within.0 (omega arith) (test-from_IsUsedAt number used),
  )

  -- ---- the whole set

  module _ (count : ℕ) (chosen : set.FinSet nat_cmp) (all : count ≡ length places) (is : chosen ≡ set_below (is_used_at plan places) (count + 1)) where
    in_set : (number : ℕ) → number ≤ count → set.contains chosen number ≡ is_used_at plan places number
    in_set number within = ap (λ s. set.contains s number) is ∙ member (is_used_at plan places) (count + 1) number (omega arith)

    pub are_used : AreUsed plan places chosen
    are_used number = (
      λ has. IsUsedAt-from_test number (and_parts (nat_lt number (count + 1)) (is_used_at plan places number)
          (sym (contains-set_below (is_used_at plan places) (count + 1) number) ∙ ap (λ s. set.contains s number) (sym is) ∙ has)).1,
      λ used. let within = used_within number used in in_set number (omega arith) ∙ test-from_IsUsedAt number used,
    )

    pub are_within : (number : ℕ) → IsTrue (set.contains chosen number) → (1 ≤ number) × (number ≤ count)
    are_within number has =
        let within = used_within number ((are_used number).0 has) in
        (within.0, omega arith)

    pub are_listed : numbers count chosen ≡ used_numbers plan places
    are_listed =
        filter-agree (set.contains chosen) (is_used_at plan places) 1 count (λ k low high. in_set k (omega arith))
        ∙ ap (λ n. filter (is_used_at plan places) (range_with_len 1 n)) all
