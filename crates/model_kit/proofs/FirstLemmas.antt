-- Where it is known of each set of numbers from 1 to d whether it has a property, one of those that have it is before all others.
use Rattle.std.proofs.Common.{◌≡◌, ℕ, ◌≤◌, zero, suc, Bool, true, false, List, [], ◌∷◌, ◌++◌, length, map, refl, sym, ap, subst, ◌∙◌, arith, ⊎_elim, inl, inr}
use Rattle.std.specs.Prelude.{◌⊎◌, ◌≢◌, ◌||◌, ◌&&◌, not, nat_eq, Contains}
use Rattle.std.specs.Ordering.{nat_cmp, eq_by_cmp}
use Rattle.std.specs.Cmp.{nat_cmp_total, unsigned_ties}
use Rattle.std.specs.FinSet as set
use Rattle.std.proofs.lemmas.Bool.{true≢false, cases_Bool, eqb-true, eqb-false, and_parts, or_cases, not-true}
use Rattle.std.proofs.lemmas.List.Elements.{Contains-append_left, Contains-append_right, Contains-append_cases}
use Rattle.mre_base.specs.Before.{is_before}
use Rattle.model_kit.proofs.OrderLemmas.{Within, before_total, before_trans}
use Rattle.mre_base.proofs.SetsBelow.{nat_tie}
use Rattle.mre_base.proofs.Loops.{contains_later}
use Rattle.mre_base.proofs.Listed.{map-contains, contains-map}

abbrev Told : Type 0
Told = set.FinSet nat_cmp

-- all sets of numbers from 1 to n
abbrev pub subsets : ℕ → List Told
subsets zero = set.empty ∷ []
subsets (suc n) = subsets n ++ map (λ s. set.insert s (suc n)) (subsets n)

insert_has : (s : Told) (k q : ℕ) → set.contains (set.insert s k) q ≡ (nat_eq q k || set.contains s q)
insert_has s k q = set.contains-insert nat_cmp_total s k q ∙ ap (λ b. b || set.contains s q) (nat_tie q k)

remove_has : (s : Told) (k q : ℕ) → set.contains (set.remove s k) q ≡ (not (nat_eq q k) && set.contains s q)
remove_has s k q = set.contains-remove nat_cmp_total s k q ∙ ap (λ b. not b && set.contains s q) (nat_tie q k)

same_told : (s t : Told) → ((q : ℕ) → set.contains s q ≡ set.contains t q) → s ≡ t
same_told = set.same_set nat_cmp_total set.nat_cmp-IsAntisymmetric

-- each of them is within 1 to n
pub subsets_within : (n : ℕ) (s : Told) → Contains (subsets n) s → Within n s
subsets_within zero s at k there = absurd (not_empty at)
  where
    not_empty : Contains (set.empty ∷ []) s → ⊥
    not_empty (zero, lt, is) = true≢false (sym there ∙ ap (λ t. set.contains t k) (sym is) ∙ set.contains-empty nat_cmp k)
    not_empty (suc m, lt, is) = absurd (omega arith)
subsets_within (suc n) s at k there =
    ⊎_elim
    (λ early. let bounds = subsets_within n s early k there in (bounds.0, omega (arith, bounds.1)))
    (λ late.
    let from = contains-map (λ t. set.insert t (suc n)) (subsets n) s late in
    let has : (nat_eq k (suc n) || set.contains from.0 k) ≡ true = sym (insert_has from.0 (suc n) k) ∙ ap (λ t. set.contains t k) from.2 ∙ there in
    ⊎_elim (λ is. let same = eqb-true k (suc n) is in (omega (arith, same), omega (arith, same)))
    (λ old. let bounds = subsets_within n from.0 from.1 k old in (bounds.0, omega (arith, bounds.1))) (or_cases (nat_eq k (suc n)) (set.contains from.0 k) has))
    (Contains-append_cases (subsets n) (map (λ t. set.insert t (suc n)) (subsets n)) s at)

-- and each set within 1 to n is one of them
pub subsets_all : (n : ℕ) (s : Told) → Within n s → Contains (subsets n) s
subsets_all zero s within = (0, omega arith, sym (same_told s set.empty (λ q. ⊎_elim (λ there. absurd (let bounds = within q there in omega (arith, bounds.0, bounds.1))) (λ away. away ∙ sym (set.contains-empty nat_cmp q)) (cases_Bool (set.contains s q)))))
subsets_all (suc n) s within =
    let less : Told = set.remove s (suc n) in
    let less_within : Within n less = λ k there.
    let parts = and_parts (not (nat_eq k (suc n))) (set.contains s k) (sym (remove_has s (suc n) k) ∙ there) in
    let bounds = within k parts.1 in
    let apart = eqb-false k (suc n) (not-true (nat_eq k (suc n)) parts.0) in
    (bounds.0, by_apart k n bounds.1 apart) in
    let found = subsets_all n less less_within in
    ⊎_elim
    (λ there. let whole : set.insert less (suc n) ≡ s = same_told (set.insert less (suc n)) s (λ q. insert_has less (suc n) q ∙ ap (λ b. nat_eq q (suc n) || b) (remove_has s (suc n) q) ∙ back (nat_eq q (suc n)) (set.contains s q) (λ e. ap (set.contains s) (eqb-true q (suc n) e) ∙ there)) in
    subst (Contains (subsets (suc n))) whole (Contains-append_right (subsets n) (map (λ t. set.insert t (suc n)) (subsets n)) (set.insert less (suc n)) (map-contains (λ t. set.insert t (suc n)) (subsets n) less found)))
    (λ away. let whole : less ≡ s = same_told less s (λ q. remove_has s (suc n) q ∙ stays (nat_eq q (suc n)) (set.contains s q) (λ e. ap (set.contains s) (eqb-true q (suc n) e) ∙ away)) in
    subst (Contains (subsets (suc n))) whole (Contains-append_left (subsets n) (map (λ t. set.insert t (suc n)) (subsets n)) less found))
    (cases_Bool (set.contains s (suc n)))
  where
    by_apart : (k m : ℕ) → k ≤ suc m → k ≢ suc m → k ≤ m
    by_apart k m le apart = omega arith

    back : (hit has : Bool) → (hit ≡ true → has ≡ true) → (hit || (not hit && has)) ≡ has
    back true has same = sym (same refl)
    back false has same = refl

    stays : (hit has : Bool) → (hit ≡ true → has ≡ false) → (not hit && has) ≡ has
    stays true has same = sym (same refl)
    stays false has same = refl

-- ---- the first

pub cons_cases : {X : Type 0} (x : X) (xs : List X) (y : X) → Contains (x ∷ xs) y → (y ≡ x) ⊎ Contains xs y
cons_cases x xs y (zero, lt, is) = inl (sym is)
cons_cases x xs y (suc k, lt, is) = inr (k, omega arith, is)

module _ (weights : List ℕ) (P : Told → Type 0) where
  -- the set has the property, and is before each other listed set that has it
  record IsLeader (xs : List Told) (first : Told) : Type 0 where
    listed : Contains xs first
    has : P first
    leads : (s : Told) → Contains xs s → P s → (s ≡ first) ⊎ (is_before weights first s ≡ true)

  led_by_new : (x f : Told) (xs : List Told) → P x → IsLeader xs f → is_before weights x f ≡ true → IsLeader (x ∷ xs) x
  led_by_new x f xs has rest before = record {
    listed = (0, omega arith, refl);
    has = has;
    leads = λ s at p. ⊎_elim (λ is. inl is)
        (λ in_rest. inr (⊎_elim (λ is. subst (λ t. is_before weights x t ≡ true) (sym is) before) (λ further. before_trans weights x f s before further) (rest.leads s in_rest p)))
        (cons_cases x xs s at);
  }

  led_by_old : (x f : Told) (xs : List Told) → IsLeader xs f → (P x → (x ≡ f) ⊎ (is_before weights f x ≡ true)) → IsLeader (x ∷ xs) f
  led_by_old x f xs rest after = record {
    listed = contains_later x xs f rest.listed;
    has = rest.has;
    leads = λ s at p. ⊎_elim
        (λ is. ⊎_elim (λ same. inl (is ∙ same)) (λ before. inr (subst (λ t. is_before weights f t ≡ true) (sym is) before)) (after (subst P is p)))
        (λ in_rest. rest.leads s in_rest p)
        (cons_cases x xs s at);
  }

  module _ (known : (s : Told) → Within (length weights) s → P s ⊎ ¬ P s) where
    -- among listed sets none has the property, or one leads those that have it
    first_listed : (xs : List Told) → ((s : Told) → Contains xs s → Within (length weights) s) → ((first : Told) × IsLeader xs first) ⊎ ((s : Told) → Contains xs s → ¬ P s)
    first_listed [] within = inr (λ s at p. absurd (omega (arith, at.1)))
    first_listed (x ∷ xs) within =
        let rest_within : (s : Told) → Contains xs s → Within (length weights) s = λ s at. within s (contains_later x xs s at) in
        let inside = within x (0, omega arith, refl) in
        ⊎_elim
        (λ has. ⊎_elim
        (λ rest. inl (⊎_elim (λ same. (rest.0, led_by_old x rest.0 xs rest.1 (λ _. inl same)))
        (⊎_elim (λ before. (x, led_by_new x rest.0 xs has rest.1 before)) (λ after. (rest.0, led_by_old x rest.0 xs rest.1 (λ _. inr after))))
        (before_total weights x rest.0 inside (rest_within rest.0 rest.1.listed))))
        (λ none. inl (x, record { listed = (0, omega arith, refl); has = has; leads = λ s at p. ⊎_elim (λ is. inl is) (λ in_rest. absurd (none s in_rest p)) (cons_cases x xs s at) }))
        (first_listed xs rest_within))
        (λ lacks. ⊎_elim
        (λ rest. inl (rest.0, led_by_old x rest.0 xs rest.1 (λ p. absurd (lacks p))))
        (λ none. inr (λ s at p. ⊎_elim (λ is. lacks (subst P is p)) (λ in_rest. none s in_rest p) (cons_cases x xs s at)))
        (first_listed xs rest_within))
        (known x inside)

    -- where some set within 1 to d has the property, one of them is before all others
    pub first_of_known : (some : Told) → Within (length weights) some → P some
        → (first : Told) × Within (length weights) first × P first × ((s : Told) → Within (length weights) s → P s → s ≢ first → is_before weights first s ≡ true)
    first_of_known some inside has =
        ⊎_elim
        (λ found. (
          found.0,
          subsets_within (length weights) found.0 found.1.listed,
          found.1.has,
          λ s within p apart. ⊎_elim (λ same. absurd (apart same)) (λ before. before) (found.1.leads s (subsets_all (length weights) s within) p),
        ))
        (λ none. absurd (none some (subsets_all (length weights) some inside) has))
        (first_listed (subsets (length weights)) (subsets_within (length weights)))

-- it is known whether each set that passes a test has a property
module _ (d : ℕ) (passes : Told → Bool) (P : Told → Type 0) (known : (s : Told) → Within d s → P s ⊎ ¬ P s) where
  each_listed : (xs : List Told) → ((s : Told) → Contains xs s → Within d s)
      → ((s : Told) → Contains xs s → passes s ≡ true → P s) ⊎ ((s : Told) × Contains xs s × (passes s ≡ true) × ¬ P s)
  each_listed [] within = inl (λ s at. absurd (omega (arith, at.1)))
  each_listed (x ∷ xs) within =
      let rest = each_listed xs (λ s at. within s (contains_later x xs s at)) in
      let here : Contains (x ∷ xs) x = (0, omega arith, refl) in
      let with_rest : (passes x ≡ true → P x) → ((s : Told) → Contains (x ∷ xs) s → passes s ≡ true → P s) ⊎ ((s : Told) × Contains (x ∷ xs) s × (passes s ≡ true) × ¬ P s) =
      λ ok. ⊎_elim
      (λ each. inl (λ s at e. ⊎_elim (λ is. subst P (sym is) (ok (ap passes (sym is) ∙ e))) (λ in_rest. each s in_rest e) (cons_cases x xs s at)))
      (λ one. inr (one.0, contains_later x xs one.0 one.1, one.2, one.3)) rest in
      ⊎_elim
      (λ tested. ⊎_elim (λ has. with_rest (λ _. has)) (λ lacks. inr (x, here, tested, lacks)) (known x (within x here)))
      (λ untested. with_rest (λ e. absurd (true≢false (sym e ∙ untested))))
      (cases_Bool (passes x))

  pub each_known : ((s : Told) → Within d s → passes s ≡ true → P s) ⊎ ¬ ((s : Told) → Within d s → passes s ≡ true → P s)
  each_known =
      ⊎_elim
      (λ each. inl (λ s within e. each s (subsets_all d s within) e))
      (λ one. inr (λ all. one.3 (all one.0 (subsets_within d one.0 one.1) one.2)))
      (each_listed (subsets d) (subsets_within d))
