-- Where a number reaches another it does so in few steps: the parents on the way need not come twice.
use Rattle.std.proofs.Common.{◌≡◌, ℕ, ◌+◌, ◌-◌, ◌<◌, ◌≤◌, zero, suc, Bool, true, false, ◌||◌, List, [], ◌∷◌, length, get_or, map, refl, sym, ap, ◌∙◌, arith, zero-add, ⊎_elim, inl, inr}
use Rattle.std.specs.Prelude.{◌==◌, ◌⊎◌}
use Rattle.std.specs.Bool.{nat_eq}
use Rattle.std.specs.Cmp.{nat_eq_equiv}
use Rattle.std.specs.List.{list_any, range_with_len}
use Rattle.std.proofs.lemmas.Bool.{true≢false, eqb-true, eq-eqb, cases_Bool, cases_lt, false_from_ne_true}
use Rattle.std.proofs.lemmas.List.{length-map}
use Rattle.std.proofs.lemmas.List.FromFn.{get_or-map-range_with_len, length-range_with_len}
use Rattle.std.proofs.lemmas.Map.Keys.{IsDistinct-from_apart}
use Rattle.std.proofs.lemmas.Map.Made.{length-le_from_is_member}
use Rattle.model_kit.proofs.StateLemmas.{list_any-map}
use Rattle.model_kit.proofs.TypeLemmas.{some_below}
use Rattle.pddl_names.specs.Forests.{climb}
use Rattle.pddl_names.proofs.GrowLemmas.{climb_add}

-- the least number that passes a test
pub record IsLeast (p : ℕ → Bool) (m : ℕ) : Type 0 where
  pub passes : p m ≡ true
  pub before : (k : ℕ) → k < m → p k ≡ false

least_to : (p : ℕ → Bool) (n : ℕ) → ((m : ℕ) × IsLeast p m) ⊎ ((k : ℕ) → k < n → p k ≡ false)
least_to p zero = inr (λ k lt. absurd (omega (arith, lt)))
least_to p (suc n) =
    ⊎_elim (λ found. inl found)
    (λ none. ⊎_elim (λ e. inl (n, record { passes = e; before = none }))
    (λ e. inr (λ k lt. ⊎_elim (λ l. none k l) (λ ge. let is : k ≡ n = omega (arith, lt, ge) in ap p is ∙ e) (cases_lt k n)))
    (cases_Bool (p n)))
    (least_to p n)

least : (p : ℕ → Bool) (n : ℕ) → p n ≡ true → (m : ℕ) × IsLeast p m
least p n e = ⊎_elim (λ found. found) (λ none. let lt : n < suc n = omega arith in absurd (true≢false (sym e ∙ none n lt))) (least_to p (suc n))

module _ (ups L : List ℕ) (a b : ℕ) (listed : (k : ℕ) → list_any (λ x. climb ups (suc k) a == x) L ≡ true) where
  abbrev test : ℕ → Bool
  test k = climb ups k a == b

  abbrev way : ℕ → List ℕ
  way m = map (λ k. climb ups (suc k) a) (range_with_len 0 m)

  way_at : (m i d : ℕ) → i < m → get_or (way m) i d ≡ climb ups (suc i) a
  way_at m i d lt =
      get_or-map-range_with_len (λ k. climb ups (suc k) a) 0 m i i d lt (zero-add i)

  way_long : (m : ℕ) → length (way m) ≡ m
  way_long m = length-map (range_with_len 0 m) (λ k. climb ups (suc k) a) ∙ length-range_with_len 0 m

  -- what comes twice makes a shorter way
  shorter : (m i j : ℕ) → IsLeast test m → i < j → j < m → climb ups (suc i) a ≡ climb ups (suc j) a → ⊥
  shorter m i j is early late same =
      let rest : m ≡ m - suc j + suc j = omega (arith, late) in
      let short : m - suc j + suc i < m = omega (arith, early, late) in
      let there : climb ups (m - suc j + suc i) a ≡ b =
      (climb_add ups (m - suc j) (suc i) a ∙ ap (climb ups (m - suc j)) same ∙ sym (climb_add ups (m - suc j) (suc j) a) ∙ ap (λ k. climb ups k a) (sym rest) ∙ eqb-true (climb ups m a) b is.passes) in
      true≢false (sym (eq-eqb (climb ups (m - suc j + suc i) a) b there) ∙ is.before (m - suc j + suc i) short)

  pub reach_few : (n : ℕ) → climb ups n a ≡ b → (m : ℕ) × (m ≤ length L) × (climb ups m a ≡ b)
  reach_few n reach =
      let found = least test n (eq-eqb (climb ups n a) b reach) in
      let m = found.0 in
      let apart = IsDistinct-from_apart nat_eq (way m) (λ i j d early late.
      let last : j < m = omega (arith, late, way_long m) in
      false_from_ne_true (nat_eq (get_or (way m) i d) (get_or (way m) j d))
      (λ e. shorter m i j found.1 early last (sym (way_at m i d (omega (arith, early, last))) ∙ eqb-true (get_or (way m) i d) (get_or (way m) j d) e ∙ way_at m j d last))) in
      let few = length-le_from_is_member nat_eq_equiv (way m) L apart
      (λ q e. let k = some_below (λ k. nat_eq q (climb ups (suc k) a)) m (sym (list_any-map (nat_eq q) (λ k. climb ups (suc k) a) (range_with_len 0 m)) ∙ e) in
      ap (λ x. list_any (nat_eq x) L) (eqb-true q (climb ups (suc k.0) a) k.2) ∙ listed k.0) in
      (m, omega (arith, few, way_long m), eqb-true (climb ups m a) b found.1.passes)
