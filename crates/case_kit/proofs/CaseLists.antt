-- Lists of cases: the atoms of those that pass a test, one case after another.
use Rattle.std.proofs.Common.{◌≡◌, ℕ, ◌+◌, ◌<◌, Bool, true, false, cond, List, [], ◌∷◌, ◌++◌, take, map, filter, Some, All, refl, sym, ap, ◌∙◌, arith, subst, ◌⊎◌, inl, inr}
use Rattle.std.specs.Prelude.{Contains, slice_get}
use Rattle.std.specs.Ordering.{nat_cmp}
use Rattle.std.specs.FinSet as set
use Rattle.std.specs.Cmp.{nat_cmp_total}
use Rattle.std.specs.FinSet.{contains-empty, from_list_push, nat_cmp-IsAntisymmetric}
use Rattle.std.proofs.lemmas.Bool.{or_cases, or_left, or_right, eq-eqb, eqb-true, false≢true}
use Rattle.std.proofs.lemmas.List.{map-append}
use Rattle.std.proofs.lemmas.List.Elements.{filter-append, All-filter, All-map}
use Rattle.std.proofs.lemmas.List.{append-nil}
use Rattle.mre_base.proofs.Loops.{take_item, contains_cases, contains_here, contains_later}
use Rattle.mre_base.proofs.SetsBelow.{has_inserted, has_before, insert_cases}
use Rattle.task_kit.specs.Tasks.{Numbers, set_of}
use Rattle.case_kit.specs.declared.cases.When.{When}
use Rattle.case_kit.specs.declared.cases.Case.{Case}
use Rattle.case_kit.specs.Evaluated.{atoms_where}

-- ---- one more case
pub where_pushed : (test : When → Bool) (cases : List Case) (case : Case) →
    atoms_where test (cases ++ case ∷ []) ≡ cond (test case.when) (atoms_where test cases ++ case.atom ∷ []) (atoms_where test cases)
where_pushed test cases case =
    ap (map (λ c. c.atom)) (filter-append (λ c. test c.when) cases (case ∷ [])) ∙ map-append (λ (c : Case). c.atom) (filter (λ c. test c.when) cases) (filter (λ c. test c.when) (case ∷ [])) ∙ by (test case.when)
  where
    by : (b : Bool) → atoms_where test cases ++ map (λ (c : Case). c.atom) (cond b (case ∷ []) []) ≡ cond b (atoms_where test cases ++ case.atom ∷ []) (atoms_where test cases)
    by true = refl
    by false = append-nil (atoms_where test cases)

pub where_next : (test : When → Bool) (cases : List Case) (i : ℕ) (case : Case) (b : Bool) → slice_get cases i ≡ Some case → test case.when ≡ b →
    atoms_where test (take (i + 1) cases) ≡ cond b (atoms_where test (take i cases) ++ case.atom ∷ []) (atoms_where test (take i cases))
where_next test cases i case b at e =
    ap (atoms_where test) (take_item cases i case at) ∙ where_pushed test (take i cases) case
    ∙ ap (λ c. cond c (atoms_where test (take i cases) ++ case.atom ∷ []) (atoms_where test (take i cases))) e

-- ---- the atoms as a set
-- a case of the list passes the test and has the atom
abbrev pub IsTaken : (When → Bool) → List Case → ℕ → Type 0
IsTaken test cases k = (case : Case) × Contains cases case × (test case.when ≡ true) × (case.atom ≡ k)

pub in_where : (test : When → Bool) (cases : List Case) (k : ℕ) → set.contains (set_of (atoms_where test cases)) k ≡ true → IsTaken test cases k
in_where test [] k there = absurd (false≢true (sym (contains-empty nat_cmp k) ∙ there))
in_where test (case ∷ cases) k there = by (test case.when) refl there (in_where test cases k) where
  later : IsTaken test cases k → IsTaken test (case ∷ cases) k
  later (c, among, on, is) = (c, contains_later case cases c among, on, is)

  by : (b : Bool) → test case.when ≡ b → set.contains (set_of (map (λ (c : Case). c.atom) (cond b (case ∷ filter (λ c. test c.when) cases) (filter (λ c. test c.when) cases)))) k ≡ true
      → (set.contains (set_of (atoms_where test cases)) k ≡ true → IsTaken test cases k) → IsTaken test (case ∷ cases) k
  by true on h rest =
      elim (insert_cases (set_of (atoms_where test cases)) case.atom k h) [
        | inl same ↦ (case, contains_here case cases, on, sym same)
        | inr before ↦ later (rest before)
      ]
  by false off h rest = later (rest h)

pub where_has : (test : When → Bool) (cases : List Case) (case : Case) → Contains cases case → test case.when ≡ true → set.contains (set_of (atoms_where test cases)) case.atom ≡ true
where_has test [] case (i, lt, e) on = absurd (omega arith)
where_has test (first ∷ cases) case among on = by (test first.when) refl (where_has test cases case) where
  by : (b : Bool) → test first.when ≡ b → (Contains cases case → test case.when ≡ true → set.contains (set_of (atoms_where test cases)) case.atom ≡ true)
      → set.contains (set_of (map (λ (c : Case). c.atom) (cond b (first ∷ filter (λ c. test c.when) cases) (filter (λ c. test c.when) cases)))) case.atom ≡ true
  by true first_on rest =
      elim (contains_cases first cases case among) [
        | inl same ↦ subst (λ (c : Case). set.contains (set.insert (set_of (atoms_where test cases)) first.atom) c.atom ≡ true) same (has_inserted (set_of (atoms_where test cases)) first.atom)
        | inr later ↦ has_before (set_of (atoms_where test cases)) first.atom case.atom (rest later on)
      ]
  by false first_off rest =
      elim (contains_cases first cases case among) [
        | inl same ↦ absurd (false≢true (sym first_off ∙ ap (λ (c : Case). test c.when) same ∙ on))
        | inr later ↦ rest later on
      ]

-- the set with one more case
pub set_next : (test : When → Bool) (cases : List Case) (i : ℕ) (case : Case) (b : Bool) → slice_get cases i ≡ Some case → test case.when ≡ b →
    set_of (atoms_where test (take (i + 1) cases)) ≡ cond b (set.insert (set_of (atoms_where test (take i cases))) case.atom) (set_of (atoms_where test (take i cases)))
set_next test cases i case b at e = ap set_of (where_next test cases i case b at e) ∙ by b where
  by : (c : Bool) → set_of (cond c (atoms_where test (take i cases) ++ case.atom ∷ []) (atoms_where test (take i cases)))
      ≡ cond c (set.insert (set_of (atoms_where test (take i cases))) case.atom) (set_of (atoms_where test (take i cases)))
  by true = from_list_push nat_cmp_total nat_cmp-IsAntisymmetric (atoms_where test (take i cases)) case.atom
  by false = refl

-- each taken atom is below a bound
pub where_below : (bound : ℕ) (test : When → Bool) (cases : List Case) → All (λ case. case.atom < bound) cases → All (λ x. x < bound) (atoms_where test cases)
where_below bound test cases below =
    All-map (λ x. x < bound) (λ (c : Case). c.atom) (filter (λ c. test c.when) cases) (All-filter (λ c. test c.when) (λ c. c.atom < bound) cases below)
