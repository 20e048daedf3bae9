-- Lists of atoms as sets of atoms, one atom after another.
use Rattle.std.proofs.Common.{◌≡◌, ℕ, zero, suc, ◌+◌, ◌≤◌, ◌<◌, Bool, true, false, ◌&&◌, ◌||◌, not, List, [], ◌∷◌, length, get_or, take, Option, Some, None, min, nat_eq, refl, sym, ap, ◌∙◌, arith, subst, ◌⊎◌, inl, inr}
use Rattle.std.proofs.lemmas.Bool.{false≢true, false_from_ne_true, cases_lt}
use Rattle.std.proofs.lemmas.List.{take_more, take_all}
use Rattle.std.specs.Cmp.{nat_cmp_total}
use Rattle.std.specs.FinSet as set
use Rattle.std.specs.FinSet.{same_set, is_subset-contains, contains-is_subset, contains-empty, contains-union, contains-difference, from_list_push, nat_cmp-IsAntisymmetric}
use Rattle.mre_base.specs.Sets.{BitSet}
use Rattle.mre_base.proofs.SetsBelow.{contains-insert_nat, contains-remove_nat, has_inserted, has_before, insert_cases}
use Rattle.task_kit.specs.Atoms.{lesser_of}
use Rattle.task_kit.specs.Tasks.{Numbers, set_of, IsLeastMissing, IsFirstLack}

-- ---- the atoms of a list
pub listed_in : (xs : List ℕ) (i : ℕ) → i < length xs → set.contains (set_of xs) (get_or xs i 0) ≡ true
listed_in [] i lt = absurd (omega arith)
listed_in (x ∷ xs) zero lt = has_inserted (set_of xs) x
listed_in (x ∷ xs) (suc i) lt = has_before (set_of xs) x (get_or xs i 0) (listed_in xs i (omega arith))

pub in_list : (xs : List ℕ) (q : ℕ) → set.contains (set_of xs) q ≡ true → (i : ℕ) × (i < length xs) × (get_or xs i 0 ≡ q)
in_list [] q there = absurd (false≢true (sym (contains-empty _ q) ∙ there))
in_list (x ∷ xs) q there =
    elim (insert_cases (set_of xs) x q there) [
      | inl e ↦ (0, omega arith, sym e)
      | inr h ↦ later (in_list xs q h)
    ]
  where
    later : (i : ℕ) × (i < length xs) × (get_or xs i 0 ≡ q) → (j : ℕ) × (j < length (x ∷ xs)) × (get_or (x ∷ xs) j 0 ≡ q)
    later (i, lt, e) = (suc i, omega arith, e)

pub each_in : (xs : List ℕ) (s : Numbers) → ((i : ℕ) → i < length xs → set.contains s (get_or xs i 0) ≡ true) → true ≡ set.is_subset (set_of xs) s
each_in xs s each = sym (contains-is_subset nat_cmp_total _ s (λ q there. found q (in_list xs q there))) where
  found : (q : ℕ) → (i : ℕ) × (i < length xs) × (get_or xs i 0 ≡ q) → set.contains s q ≡ true
  found q (i, lt, e) = sym (ap (set.contains s) e) ∙ each i lt

pub one_out : (xs : List ℕ) (s : Numbers) (i : ℕ) → i < length xs → set.contains s (get_or xs i 0) ≡ false → false ≡ set.is_subset (set_of xs) s
one_out xs s i lt out = sym (false_from_ne_true _ (λ sub. false≢true (sym out ∙ is_subset-contains nat_cmp_total _ s sub _ (listed_in xs i lt))))

-- ---- the first atoms of a list, and one more
pub more_listed : (xs : List ℕ) (i : ℕ) → i < length xs → set_of (take (i + 1) xs) ≡ set.insert (set_of (take i xs)) (get_or xs i 0)
more_listed xs i lt = ap set_of (take_more xs i 0 lt) ∙ from_list_push nat_cmp_total nat_cmp-IsAntisymmetric (take i xs) (get_or xs i 0)

pub all_listed : (xs : List ℕ) (i : ℕ) → length xs ≤ i → set_of (take i xs) ≡ set_of xs
all_listed xs i le = ap set_of (take_all i xs le)

-- ---- sets, number by number
or_none : (b : Bool) → b ≡ (b || false)
or_none true = refl
or_none false = refl

or_last : (a b c : Bool) → (a || (b || c)) ≡ (b || (a || c))
or_last true true c = refl
or_last true false c = refl
or_last false b c = refl

and_all : (b : Bool) → b ≡ (b && not false)
and_all true = refl
and_all false = refl

and_one : (a b c : Bool) → (a && not (b || c)) ≡ (not b && (a && not c))
and_one true true c = refl
and_one true false c = refl
and_one false true c = refl
and_one false false c = refl

pub union-none : (s t : Numbers) → t ≡ set.empty → s ≡ set.union s t
union-none s t e =
    same_set nat_cmp_total nat_cmp-IsAntisymmetric s _ (λ q.
    or_none (set.contains s q) ∙ ap (λ b. set.contains s q || b) (sym (ap (λ u. set.contains u q) e ∙ contains-empty _ q)) ∙ sym (contains-union nat_cmp_total s t q))

pub union-insert : (s t : Numbers) (x : ℕ) → set.union s (set.insert t x) ≡ set.insert (set.union s t) x
union-insert s t x =
    same_set nat_cmp_total nat_cmp-IsAntisymmetric _ _ (λ q.
    contains-union nat_cmp_total s _ q ∙ ap (λ b. set.contains s q || b) (contains-insert_nat t x q) ∙ or_last (set.contains s q) (nat_eq q x) (set.contains t q)
    ∙ sym (contains-insert_nat (set.union s t) x q ∙ ap (λ b. nat_eq q x || b) (contains-union nat_cmp_total s t q)))

pub difference-none : (s t : Numbers) → t ≡ set.empty → s ≡ set.difference s t
difference-none s t e =
    same_set nat_cmp_total nat_cmp-IsAntisymmetric s _ (λ q.
    and_all (set.contains s q) ∙ ap (λ b. set.contains s q && not b) (sym (ap (λ u. set.contains u q) e ∙ contains-empty _ q)) ∙ sym (contains-difference nat_cmp_total s t q))

pub difference-insert : (s t : Numbers) (x : ℕ) → set.difference s (set.insert t x) ≡ set.remove (set.difference s t) x
difference-insert s t x =
    same_set nat_cmp_total nat_cmp-IsAntisymmetric _ _ (λ q.
    contains-difference nat_cmp_total s _ q ∙ ap (λ b. set.contains s q && not b) (contains-insert_nat t x q) ∙ and_one (set.contains s q) (nat_eq q x) (set.contains t q)
    ∙ sym (contains-remove_nat (set.difference s t) x q ∙ ap (λ b. not (nat_eq q x) && b) (contains-difference nat_cmp_total s t q)))

-- ---- the first wanted atom that a state lacks
inserted_cases : (wanted more : Numbers) (x q : ℕ) → more ≡ set.insert wanted x → set.contains more q ≡ true → (q ≡ x) ⊎ (set.contains wanted q ≡ true)
inserted_cases wanted more x q e there = insert_cases wanted x q (sym (ap (λ u. set.contains u q) e) ∙ there)

inserted_before : (wanted more : Numbers) (x q : ℕ) → more ≡ set.insert wanted x → set.contains wanted q ≡ true → set.contains more q ≡ true
inserted_before wanted more x q e there = ap (λ u. set.contains u q) e ∙ has_before wanted x q there

inserted_has : (wanted more : Numbers) (x : ℕ) → more ≡ set.insert wanted x → set.contains more x ≡ true
inserted_has wanted more x e = ap (λ u. set.contains u x) e ∙ has_inserted wanted x

-- one more wanted atom, which the state has
pub lack_same : (wanted more state : Numbers) (x : ℕ) (r : Option ℕ) → more ≡ set.insert wanted x → set.contains state x ≡ true → IsFirstLack wanted state r → IsFirstLack more state r
lack_same wanted more state x None e there lack =
    contains-is_subset nat_cmp_total more state (λ q in_more.
    elim (inserted_cases wanted more x q e in_more) [
      | inl same ↦ ap (set.contains state) same ∙ there
      | inr h ↦ is_subset-contains nat_cmp_total wanted state lack q h
    ])
lack_same wanted more state x (Some atom) e there lack =
    record {
      is_wanted = inserted_before wanted more x atom e lack.is_wanted;
      is_missing = lack.is_missing;
      is_least = λ lower lt in_more.
          elim (inserted_cases wanted more x lower e in_more) [
            | inl same ↦ ap (set.contains state) same ∙ there
            | inr h ↦ lack.is_least lower lt h
          ];
    }

least_new : (wanted more state : Numbers) (x : ℕ) → more ≡ set.insert wanted x → set.contains state x ≡ false → ((lower : ℕ) → lower < x → set.contains wanted lower ≡ true → set.contains state lower ≡ true)
    → IsLeastMissing more state x
least_new wanted more state x e out least =
    record {
      is_wanted = inserted_has wanted more x e;
      is_missing = out;
      is_least = λ lower lt in_more.
          elim (inserted_cases wanted more x lower e in_more) [
            | inl same ↦ absurd (omega arith)
            | inr h ↦ least lower lt h
          ];
    }

least_old : (wanted more state : Numbers) (x atom : ℕ) → more ≡ set.insert wanted x → atom ≤ x → IsLeastMissing wanted state atom → IsLeastMissing more state atom
least_old wanted more state x atom e le lack =
    record {
      is_wanted = inserted_before wanted more x atom e lack.is_wanted;
      is_missing = lack.is_missing;
      is_least = λ lower lt in_more.
          elim (inserted_cases wanted more x lower e in_more) [
            | inl same ↦ absurd (omega arith)
            | inr h ↦ lack.is_least lower lt h
          ];
    }

-- one more wanted atom, which the state lacks
pub lack_less : (wanted more state : Numbers) (x : ℕ) (r : Option ℕ) → more ≡ set.insert wanted x → set.contains state x ≡ false → IsFirstLack wanted state r → IsFirstLack more state (Some (lesser_of r x))
lack_less wanted more state x None e out lack = least_new wanted more state x e out (λ lower lt h. is_subset-contains nat_cmp_total wanted state lack lower h)
lack_less wanted more state x (Some atom) e out lack =
    elim (cases_lt x atom) [
      | inl lt ↦ subst (IsLeastMissing more state) (first x atom lt) (least_new wanted more state x e out (λ lower less h. lack.is_least lower (omega arith) h))
      | inr le ↦ subst (IsLeastMissing more state) (second x atom le) (least_old wanted more state x atom e le lack)
    ]
  where
    first : (n m : ℕ) → n < m → n ≡ min n m
    first n m lt = omega arith

    second : (n m : ℕ) → m ≤ n → m ≡ min n m
    second n m le = omega arith

-- of no wanted atoms nothing is lacking
pub lack_none : (wanted state : Numbers) → wanted ≡ set.empty → IsFirstLack wanted state None
lack_none wanted state e = contains-is_subset nat_cmp_total wanted state (λ q there. absurd (false≢true (sym (ap (λ u. set.contains u q) e ∙ contains-empty _ q) ∙ there)))

-- nothing is lacking if the state has each wanted atom
pub no_lack : (wanted state : Numbers) → ((k : ℕ) → set.contains wanted k ≡ true → set.contains state k ≡ true) → IsFirstLack wanted state None
no_lack wanted state each = contains-is_subset nat_cmp_total wanted state each

-- ---- equal bit sets
pub same_bits : (width width' : ℕ) (members members' : Numbers) → width ≡ width' → members ≡ members' → ◌≡◌ {A = BitSet} (record { width = width; members = members }) (record { width = width'; members = members' })
same_bits width width' members members' ew em = λ i. record { width = ew i; members = em i }
