-- The members of a set that is given by a test, and what a change of the test does to it.
use Rattle.std.proofs.Common.{◌≡◌, ℕ, zero, suc, ◌<◌, Bool, true, false, not, ◌||◌, ◌&&◌, nat_eq, nat_lt, if◌then◌else◌, refl, sym, ap, ◌∙◌, arith, ◌⊎◌, ⊎_elim, inl, inr}
use Rattle.std.proofs.lemmas.Bool.{or_left, or_right, or_cases, eqb-true, eq-eqb, ne_eqb, lt-ltb, le-ltb, ltb-true, cases_order, and_parts}
use Rattle.std.specs.Ordering.{nat_cmp, eq_by_cmp}
use Rattle.std.specs.Cmp.{nat_cmp_total, unsigned_tied}
use Rattle.std.specs.FinSet as set
use Rattle.mre_base.specs.Sets.{set_below}
use Rattle.mre_base.specs.SameSets.{same_members}

-- ---- one number in a set and out of it
pub contains-insert_nat : (s : set.FinSet nat_cmp) (k q : ℕ) → set.contains (set.insert s k) q ≡ (nat_eq q k || set.contains s q)
contains-insert_nat s k q = set.contains-insert nat_cmp_total s k q ∙ ap (λ b. b || set.contains s q) (unsigned_tied q k)

pub contains-remove_nat : (s : set.FinSet nat_cmp) (k q : ℕ) → set.contains (set.remove s k) q ≡ (not (nat_eq q k) && set.contains s q)
contains-remove_nat s k q = set.contains-remove nat_cmp_total s k q ∙ ap (λ b. not b && set.contains s q) (unsigned_tied q k)

pub nat_tie : (q k : ℕ) → eq_by_cmp nat_cmp q k ≡ nat_eq q k
nat_tie q k = unsigned_tied q k

pub has_inserted : (s : set.FinSet nat_cmp) (k : ℕ) → set.contains (set.insert s k) k ≡ true
has_inserted s k = contains-insert_nat s k k ∙ or_left (nat_eq k k) (set.contains s k) (eq-eqb k k refl)

pub has_before : (s : set.FinSet nat_cmp) (k q : ℕ) → set.contains s q ≡ true → set.contains (set.insert s k) q ≡ true
has_before s k q there = contains-insert_nat s k q ∙ or_right (nat_eq q k) (set.contains s q) there

pub insert_cases : (s : set.FinSet nat_cmp) (k q : ℕ) → set.contains (set.insert s k) q ≡ true → (q ≡ k) ⊎ (set.contains s q ≡ true)
insert_cases s k q there =
    ⊎_elim (λ is. inl (eqb-true q k is)) (λ was. inr was)
    (or_cases (nat_eq q k) (set.contains s q) (sym (contains-insert_nat s k q) ∙ there))

-- ---- a set that is given by a test
passing : (p : ℕ → Bool) (n q : ℕ) → p n ≡ true → (nat_eq q n || (nat_lt q n && p q)) ≡ (nat_lt q (suc n) && p q)
passing p n q passed = elim (cases_order q n) [
  | inl e ↦ rw (eq-eqb q n e, lt-ltb q (suc n) (omega arith)) (sym (ap p e ∙ passed))
  | inr o ↦ elim o [
    | inl l ↦ rw (ne_eqb q n (λ e. absurd (omega arith)), lt-ltb q n l, lt-ltb q (suc n) (omega arith)) refl
    | inr l ↦ rw (ne_eqb q n (λ e. absurd (omega arith)), le-ltb q n (omega arith), le-ltb q (suc n) (omega arith)) refl
  ]
]

failing : (p : ℕ → Bool) (n q : ℕ) → p n ≡ false → (nat_lt q n && p q) ≡ (nat_lt q (suc n) && p q)
failing p n q failed = elim (cases_order q n) [
  | inl e ↦ rw (le-ltb q n (omega arith), lt-ltb q (suc n) (omega arith)) (sym (ap p e ∙ failed))
  | inr o ↦ elim o [
    | inl l ↦ rw (lt-ltb q n l, lt-ltb q (suc n) (omega arith)) refl
    | inr l ↦ rw (le-ltb q n (omega arith), le-ltb q (suc n) (omega arith)) refl
  ]
]

pub contains-set_below : (p : ℕ → Bool) (n q : ℕ) → set.contains (set_below p n) q ≡ (nat_lt q n && p q)
unfolding set_below
contains-set_below p zero q = set.contains-empty nat_cmp q ∙ rw (le-ltb q 0 (omega arith)) refl
contains-set_below p (suc n) q =
    elim (p n) as (λ b. p n ≡ b → set.contains (if b then set.insert (set_below p n) n else set_below p n) q ≡ (nat_lt q (suc n) && p q)) [
      | true ↦ λ passed. contains-insert_nat (set_below p n) n q ∙ ap (λ b. nat_eq q n || b) (contains-set_below p n q) ∙ passing p n q passed
      | false ↦ λ failed. contains-set_below p n q ∙ failing p n q failed
    ] refl

pub member : (p : ℕ → Bool) (n q : ℕ) → q < n → set.contains (set_below p n) q ≡ p q
member p n q h = contains-set_below p n q ∙ rw (lt-ltb q n h) refl

pub member_below : (p : ℕ → Bool) (n q : ℕ) → set.contains (set_below p n) q ≡ true → q < n
member_below p n q h = ltb-true q n (and_parts (nat_lt q n) (p q) (sym (contains-set_below p n q) ∙ h)).0

or_within : (a b l : Bool) → (a ≡ true → l ≡ true) → (l && (a || b)) ≡ (a || (l && b))
or_within true b l h = rw (h refl) refl
or_within false b l h = refl

not_within : (a b l : Bool) → (l && (not a && b)) ≡ (not a && (l && b))
not_within true b true = refl
not_within true b false = refl
not_within false b l = refl

-- a number below the bound is put into the set
pub set_below-put : (p r : ℕ → Bool) (n i : ℕ) → i < n → ((k : ℕ) → r k ≡ (nat_eq k i || p k)) → set_below r n ≡ set.insert (set_below p n) i
set_below-put p r n i within h = same_members _ _ (λ q.
    contains-set_below r n q ∙ ap (λ b. nat_lt q n && b) (h q)
    ∙ or_within (nat_eq q i) (p q) (nat_lt q n) (λ e. let same : q ≡ i = eqb-true q i e in lt-ltb q n (omega arith))
    ∙ ap (λ b. nat_eq q i || b) (sym (contains-set_below p n q)) ∙ sym (contains-insert_nat (set_below p n) i q))

-- a number is taken out of the set
pub set_below-take_out : (p r : ℕ → Bool) (n i : ℕ) → ((k : ℕ) → r k ≡ (not (nat_eq k i) && p k)) → set_below r n ≡ set.remove (set_below p n) i
set_below-take_out p r n i h = same_members _ _ (λ q.
    contains-set_below r n q ∙ ap (λ b. nat_lt q n && b) (h q)
    ∙ not_within (nat_eq q i) (p q) (nat_lt q n)
    ∙ ap (λ b. not (nat_eq q i) && b) (sym (contains-set_below p n q)) ∙ sym (contains-remove_nat (set_below p n) i q))

-- ---- subsets and equal sets
pub set_below-is_subset : (p r : ℕ → Bool) (n : ℕ) → ((k : ℕ) → p k ≡ true → r k ≡ true) → set.is_subset (set_below p n) (set_below r n) ≡ true
set_below-is_subset p r n h = set.contains-is_subset nat_cmp_total _ _ (λ q one.
    let both = and_parts (nat_lt q n) (p q) (sym (contains-set_below p n q) ∙ one) in
    contains-set_below r n q ∙ rw (both.0, h q both.1) refl)

pub is_subset-set_below : (p r : ℕ → Bool) (n : ℕ) → set.is_subset (set_below p n) (set_below r n) ≡ true → (k : ℕ) → k < n → p k ≡ true → r k ≡ true
is_subset-set_below p r n all k h one =
    sym (member r n k h) ∙ set.is_subset-contains nat_cmp_total (set_below p n) (set_below r n) all k (member p n k h ∙ one)
