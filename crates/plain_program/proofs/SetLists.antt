-- Lists of sets by doubling, and sorted by their sizes.
use Rattle.std.proofs.Common.{◌≡◌, ℕ, ◌+◌, ◌-◌, ◌≤◌, ◌<◌, zero, suc, Bool, true, false, List, [], ◌∷◌, ◌++◌, length, take, Some, refl, sym, ap, ◌∙◌, subst, arith, ⊎_elim, add-one, append_assoc}
use Rattle.std.specs.Prelude.{◌||◌, ◌&&◌, ◌≢◌, not, nat_eq, slice_get, Contains, filter, if◌then◌else◌}
use Rattle.std.specs.List.{range_with_len}
use Rattle.std.proofs.lemmas.List.{append-nil}
use Rattle.std.proofs.lemmas.List.FromFn.{length-range_with_len}
use Rattle.std.specs.Ordering.{nat_cmp}
use Rattle.std.specs.Cmp.{nat_cmp_total}
use Rattle.std.specs.FinSet as set
use Rattle.std.specs.FinSet.{nat_cmp-IsAntisymmetric}
use Rattle.std.proofs.lemmas.Bool.{true≢false, cases_Bool, eqb-true, eqb-false, and_parts, not-true}
use Rattle.std.proofs.lemmas.List.Elements.{Contains-append_left, Contains-append_right, Contains-append_cases}
use Rattle.mre_base.specs.Before.{count_of}
use Rattle.mre_base.proofs.ListOrder.{filter-shorter}
use Rattle.mre_base.proofs.Loops.{contains_cases, contains_later}
use Rattle.mre_base.proofs.Listed.{map-contains, contains-map, filter_few}
use Rattle.mre_base.proofs.SetsBelow.{contains-insert_nat, contains-remove_nat, insert_cases}
use Rattle.cube_kit.specs.Cubes.{Told, IsWithin}
use Rattle.plain_program.specs.Subsets.{all_with, sets_from, of_sizes, ListsAll}

-- each number of the set is one of the last n up to the bound
abbrev IsLast : ℕ → ℕ → Told → Type 0
IsLast bound n s = (k : ℕ) → set.contains s k ≡ true → (bound < k + n) × (k ≤ bound)

module _ (bound : ℕ) where
  -- ---- each listed set has only such numbers

  from_within : (n : ℕ) → n ≤ bound → (s : Told) → Contains (sets_from bound n) s → IsLast bound n s
  from_within zero few s at k there =
      ⊎_elim (λ is. absurd (true≢false (sym there ∙ ap (λ t. set.contains t k) (sym is) ∙ set.contains-empty nat_cmp k))) (λ none. absurd (omega (arith, none.1)))
      (contains_cases set.empty [] s at)
  from_within (suc n) few s at k there =
      ⊎_elim
      (λ with. let from = contains-map (λ t. set.insert t (bound - n)) (sets_from bound n) s with in
      ⊎_elim
      (λ is. (omega (arith, is, few), omega (arith, is)))
      (λ old. let bounds = from_within n (omega arith) from.0 from.1 k old in (omega (arith, bounds.0), bounds.1))
      (insert_cases from.0 (bound - n) k (ap (λ t. set.contains t k) from.2 ∙ there)))
      (λ without. let bounds = from_within n (omega arith) s without k there in (omega (arith, bounds.0), bounds.1))
      (Contains-append_cases (all_with (bound - n) (sets_from bound n)) (sets_from bound n) s at)

  -- ---- each set of such numbers is listed

  back : (hit has : Bool) → (hit ≡ true → has ≡ true) → (hit || (not hit && has)) ≡ has
  back true has same = sym (same refl)
  back false has same = refl

  less_last : (n : ℕ) (s : Told) → n < bound → IsLast bound (suc n) s → IsLast bound n (set.remove s (bound - n))
  less_last n s few last k there =
      let parts = and_parts (not (nat_eq k (bound - n))) (set.contains s k) (sym (contains-remove_nat s (bound - n) k) ∙ there) in
      let bounds = last k parts.1 in
      let apart : k ≢ bound - n = eqb-false k (bound - n) (not-true (nat_eq k (bound - n)) parts.0) in
      (past k apart bounds.0, bounds.1)
    where
      past : (j : ℕ) → j ≢ bound - n → bound < j + suc n → bound < j + n
      past j apart low = omega arith

  same_last : (n : ℕ) (s : Told) → n < bound → IsLast bound (suc n) s → set.contains s (bound - n) ≡ false → IsLast bound n s
  same_last n s few last away k there =
      let bounds = last k there in (past k (λ is. true≢false (sym there ∙ ap (set.contains s) is ∙ away)) bounds.0, bounds.1)
    where
      past : (j : ℕ) → j ≢ bound - n → bound < j + suc n → bound < j + n
      past j apart low = omega arith

  from_all : (n : ℕ) → n ≤ bound → (s : Told) → IsLast bound n s → Contains (sets_from bound n) s
  from_all zero few s last =
      (0, omega arith, sym (set.same_set nat_cmp_total nat_cmp-IsAntisymmetric s set.empty (λ q. ⊎_elim (λ there. absurd (let bounds = last q there in omega (arith, bounds.0, bounds.1))) (λ away. away ∙ sym (set.contains-empty nat_cmp q)) (cases_Bool (set.contains s q)))))
  from_all (suc n) few s last =
      let place : ℕ = bound - n in
      let rest : List Told = sets_from bound n in
      ⊎_elim
      (λ there.
      let less : Told = set.remove s place in
      let whole : set.insert less place ≡ s =
      set.same_set nat_cmp_total nat_cmp-IsAntisymmetric (set.insert less place) s (λ q. contains-insert_nat less place q ∙ ap (λ b. nat_eq q place || b) (contains-remove_nat s place q) ∙ back (nat_eq q place) (set.contains s q) (λ e. ap (set.contains s) (eqb-true q place e) ∙ there)) in
      subst (Contains (all_with place rest ++ rest)) whole
      (Contains-append_left (all_with place rest) rest (set.insert less place) (map-contains (λ t. set.insert t place) rest less (from_all n (omega arith) less (less_last n s (omega arith) last)))))
      (λ away. Contains-append_right (all_with place rest) rest s (from_all n (omega arith) s (same_last n s (omega arith) last away)))
      (cases_Bool (set.contains s place))

  pub lists_all : ListsAll bound (sets_from bound bound)
  lists_all = record {
    within = λ s at k there. let bounds = from_within bound (omega arith) s at k there in (omega (arith, bounds.0), bounds.1);
    all = λ s within. from_all bound (omega arith) s (λ k there. let bounds = within k there in (omega (arith, bounds.0), bounds.1));
  }

-- ---- by sizes

module _ {X : Type 0} (p : X → Bool) where
  filtered : (xs : List X) (x : X) → Contains (filter p xs) x → Contains xs x × (p x ≡ true)
  filtered [] x at = absurd (omega (arith, at.1))
  filtered (y ∷ xs) x at = by (p y) refl at (filtered xs x)
    where
      by : (b : Bool) → p y ≡ b → Contains (if b then y ∷ filter p xs else filter p xs) x → (Contains (filter p xs) x → Contains xs x × (p x ≡ true)) → Contains (y ∷ xs) x × (p x ≡ true)
      by true is (zero, lt, same) rest = ((zero, omega arith, same), ap p (sym same) ∙ is)
      by true is (suc k, lt, same) rest = let found = rest (k, omega arith, same) in (contains_later y xs x found.0, found.1)
      by false is there rest = let found = rest there in (contains_later y xs x found.0, found.1)

  kept : (xs : List X) (x : X) → Contains xs x → p x ≡ true → Contains (filter p xs) x
  kept [] x at holds = absurd (omega (arith, at.1))
  kept (y ∷ xs) x (zero, lt, same) holds = by (p y) (ap p same ∙ holds)
    where
      by : (b : Bool) → b ≡ true → Contains (if b then y ∷ filter p xs else filter p xs) x
      by true is = (zero, omega arith, same)
      by false is = absurd (true≢false (sym is))
  kept (y ∷ xs) x (suc k, lt, same) holds = by (p y) (kept xs x (k, omega arith, same) holds)
    where
      by : (b : Bool) → Contains (filter p xs) x → Contains (if b then y ∷ filter p xs else filter p xs) x
      by true rest = contains_later y (filter p xs) x rest
      by false rest = rest

  filter_next : (xs : List X) (i : ℕ) (x : X) → slice_get xs i ≡ Some x → filter p (take (suc i) xs) ≡ filter p (take i xs) ++ (if p x then x ∷ [] else [])
  filter_next [] i x at = absurd (cc)
  filter_next (y ∷ xs) zero x at = let same : y ≡ x = cc in subst (λ z. filter p (y ∷ []) ≡ (if p z then z ∷ [] else [])) same refl
  filter_next (y ∷ xs) (suc i) x at = by (p y) (filter_next xs i x at)
    where
      by : (b : Bool) → filter p (take (suc i) xs) ≡ filter p (take i xs) ++ (if p x then x ∷ [] else [])
          → (if b then y ∷ filter p (take (suc i) xs) else filter p (take (suc i) xs)) ≡ (if b then y ∷ filter p (take i xs) else filter p (take i xs)) ++ (if p x then x ∷ [] else [])
      by true rest = ap (λ zs. y ∷ zs) rest
      by false rest = rest

  pub filter_item : (xs : List X) (i : ℕ) (x : X) → slice_get xs i ≡ Some x → filter p (take (i + 1) xs) ≡ filter p (take i xs) ++ (if p x then x ∷ [] else [])
  filter_item xs i x at = ap (λ n. filter p (take n xs)) (add-one i) ∙ filter_next xs i x at

-- the sets of one size, with one more set that has the size or hasn't
module _ (size : ℕ) (all : List Told) (i : ℕ) (s : Told) (at : slice_get all i ≡ Some s) (begin old new : List Told) (before : old ≡ begin ++ filter (λ t. nat_eq (count_of t) size) (take i all)) where
  pub size_more : nat_eq (count_of s) size ≡ true → new ≡ old ++ s ∷ [] → new ≡ begin ++ filter (λ t. nat_eq (count_of t) size) (take (i + 1) all)
  size_more has pushed =
      pushed ∙ ap (λ xs. xs ++ s ∷ []) before ∙ append_assoc begin (filter (λ t. nat_eq (count_of t) size) (take i all)) (s ∷ [])
      ∙ ap (λ xs. begin ++ xs) (sym (filter_item (λ t. nat_eq (count_of t) size) all i s at ∙ ap (λ b. filter (λ t. nat_eq (count_of t) size) (take i all) ++ (if b then s ∷ [] else [])) has))

  pub size_other : nat_eq (count_of s) size ≡ false → new ≡ old → new ≡ begin ++ filter (λ t. nat_eq (count_of t) size) (take (i + 1) all)
  size_other lacks kept_ =
      kept_ ∙ before
      ∙ ap (λ xs. begin ++ xs) (sym (filter_item (λ t. nat_eq (count_of t) size) all i s at ∙ ap (λ b. filter (λ t. nat_eq (count_of t) size) (take i all) ++ (if b then s ∷ [] else [])) lacks ∙ append-nil (filter (λ t. nat_eq (count_of t) size) (take i all))))

in_sizes : (sets : List Told) (size : ℕ) (s : Told) → Contains (of_sizes sets size) s → Contains sets s
in_sizes sets zero s at = absurd (omega (arith, at.1))
in_sizes sets (suc size) s at =
    ⊎_elim (in_sizes sets size s) (λ last. (filtered (λ t. nat_eq (count_of t) size) sets s last).0)
    (Contains-append_cases (of_sizes sets size) (filter (λ t. nat_eq (count_of t) size) sets) s at)

in_some_size : (sets : List Told) (size : ℕ) (s : Told) → Contains sets s → count_of s < size → Contains (of_sizes sets size) s
in_some_size sets zero s at lt = absurd (omega (arith, lt))
in_some_size sets (suc size) s at lt =
    ⊎_elim
    (λ is. Contains-append_right (of_sizes sets size) (filter (λ t. nat_eq (count_of t) size) sets) s (kept (λ t. nat_eq (count_of t) size) sets s at is))
    (λ no. Contains-append_left (of_sizes sets size) (filter (λ t. nat_eq (count_of t) size) sets) s (in_some_size sets size s at (below (count_of s) size lt (eqb-false (count_of s) size no))))
    (cases_Bool (nat_eq (count_of s) size))
  where
    below : (k n : ℕ) → k < suc n → k ≢ n → k < n
    below k n less apart = omega arith

-- a set has at most as many numbers as the bound
count_few : (bound : ℕ) → bound ≤ 256 → (s : Told) → IsWithin bound s → count_of s ≤ bound
unfolding count_of
count_few bound few s within =
    let short = filter-shorter (set.contains s) 1 bound 256 few (λ k past. outside k past) in
    omega (arith, filter_few (set.contains s) (range_with_len 1 bound), ap length short, length-range_with_len 1 bound)
  where
    outside : (k : ℕ) → 1 + bound ≤ k → set.contains s k ≡ false
    outside k past = ⊎_elim (λ there. let bounds = within k there in absurd (omega (arith, bounds.1, past))) (λ away. away) (cases_Bool (set.contains s k))

-- sorted by their sizes the sets are the same
pub sorted_all : (bound : ℕ) → bound ≤ 256 → (sets : List Told) → ListsAll bound sets → ListsAll bound (of_sizes sets (bound + 1))
sorted_all bound few sets all = record {
  within = λ s at. all.within s (in_sizes sets (bound + 1) s at);
  all = λ s within. in_some_size sets (bound + 1) s (all.all s within) (let count = count_few bound few s within in omega (arith, count));
}
