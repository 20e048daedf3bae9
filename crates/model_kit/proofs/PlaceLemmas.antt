-- After all differences are told the user's model is the planner's.
use Rattle.std.proofs.Common.{◌≡◌, ℕ, ◌+◌, ◌<◌, ◌≤◌, zero, suc, Bool, true, false, cond, List, [], ◌∷◌, length, refl, sym, ap, ◌∙◌, arith, ⊎_elim}
use Rattle.std.specs.Prelude.{◌||◌, nat_eq, Contains}
use Rattle.std.specs.List.{list_any, range_with_len}
use Rattle.std.specs.Ordering.{nat_cmp}
use Rattle.std.specs.FinSet as set
use Rattle.std.proofs.lemmas.Bool.{true≢false, cases_Bool, cases_order, or_cases, or_parts, or_left, or_right, eq-eqb, eqb-true}
use Rattle.mre_base.proofs.ListOrder.{range-list_any}
use Rattle.model_kit.specs.Places.{Place, Meaning, same_place}
use Rattle.model_kit.specs.Differences.{is_told, patched}
use Rattle.model_kit.proofs.Alike.{same_place-decides}
use Rattle.model_kit.proofs.OrderLemmas.{Within}

-- the set of all numbers from 1 to d
abbrev pub all_of : ℕ → set.FinSet nat_cmp
all_of d = set.from_list (range_with_len 1 d)

in_range : (q a n : ℕ) → a ≤ q → q < a + n → list_any (λ y. nat_eq y q) (range_with_len a n) ≡ true
in_range q a zero low high = absurd (omega arith)
in_range q a (suc n) low high =
    ⊎_elim (λ same. or_left (nat_eq a q) (list_any (λ y. nat_eq y q) (range_with_len (a + 1) n)) (eq-eqb a q same))
    (⊎_elim (λ lt. or_right (nat_eq a q) (list_any (λ y. nat_eq y q) (range_with_len (a + 1) n)) (in_range q (a + 1) n (omega arith) (omega arith))) (λ gt. absurd (omega arith)))
    (cases_order a q)

pub all_has : (d q : ℕ) → 1 ≤ q → q ≤ d → set.contains (all_of d) q ≡ true
all_has d q low high = set.contains-from_list_nat (range_with_len 1 d) q ∙ in_range q 1 d low (omega arith)

pub all_within : (d : ℕ) → Within d (all_of d)
all_within d q there =
    let at = range-list_any (λ y. nat_eq y q) 1 d (sym (set.contains-from_list_nat (range_with_len 1 d) q) ∙ there) in
    let same = eqb-true at.0 q at.3 in
    (omega (arith, at.1, same), omega (arith, at.2, same))

-- where each number passes, the listed places are told
told_if_listed : (k : ℕ) (places : List Place) (passes : ℕ → Bool) → ((n : ℕ) → k ≤ n → n < k + length places → passes n ≡ true) → (p : Place) → is_told k places passes p ≡ list_any (λ q. same_place q p) places
told_if_listed k [] passes each p = refl
told_if_listed k (q ∷ places) passes each p =
    ⊎_elim
    (λ hit. pick_first hit (passes k) (is_told (k + 1) places passes p) (list_any (λ r. same_place r p) places) (each k (omega arith) (omega arith)))
    (λ miss. pick_rest miss (passes k) (is_told (k + 1) places passes p) (list_any (λ r. same_place r p) places) (told_if_listed (k + 1) places passes (λ n low high. each n (omega arith) (omega arith)) p))
    (cases_Bool (same_place q p))
  where
    pick_first : same_place q p ≡ true → (a b c : Bool) → a ≡ true → cond (same_place q p) a b ≡ (same_place q p || c)
    pick_first hit a b c yes_a = ap (λ s. cond s a b) hit ∙ yes_a ∙ sym (ap (λ s. s || c) hit)

    pick_rest : same_place q p ≡ false → (a b c : Bool) → b ≡ c → cond (same_place q p) a b ≡ (same_place q p || c)
    pick_rest miss a b c same = ap (λ s. cond s a b) miss ∙ same ∙ sym (ap (λ s. s || c) miss)

pub listed_place : (p : Place) (places : List Place) → list_any (λ q. same_place q p) places ≡ true → Contains places p
listed_place p [] e = absurd (true≢false (sym e))
listed_place p (q ∷ places) e =
    ⊎_elim (λ here. (zero, omega arith, (same_place-decides q p).0 here)) (λ later. let at = listed_place p places later in (suc at.0, omega (arith, at.1), at.2)) (or_cases (same_place q p) (list_any (λ r. same_place r p) places) e)

pub unlisted_place : (p : Place) (places : List Place) → list_any (λ q. same_place q p) places ≡ false → ¬ Contains places p
unlisted_place p [] e at = omega (arith, at.1)
unlisted_place p (q ∷ places) e (zero, lt, is) = true≢false (sym ((same_place-decides q p).1 is) ∙ (or_parts (same_place q p) (list_any (λ r. same_place r p) places) e).0)
unlisted_place p (q ∷ places) e (suc k, lt, is) = unlisted_place p places (or_parts (same_place q p) (list_any (λ r. same_place r p) places) e).1 (k, omega arith, is)

-- the user's model after all differences is the planner's
pub patched_all : (planner user : Meaning) (places : List Place) → ((p : Place) → ¬ Contains places p → planner p ≡ user p) → patched planner user places (all_of (length places)) ≡ planner
patched_all planner user places agree = λ i p. at p i
  where
    at : (p : Place) → patched planner user places (all_of (length places)) p ≡ planner p
    at p =
        let told = told_if_listed 1 places (set.contains (all_of (length places))) (λ n low high. all_has (length places) n low (omega arith)) p in
        ⊎_elim
        (λ listed. ap (λ b. cond b (planner p) (user p)) (told ∙ listed))
        (λ unlisted. ap (λ b. cond b (planner p) (user p)) (told ∙ unlisted) ∙ sym (agree p (unlisted_place p places unlisted)))
        (cases_Bool (list_any (λ q. same_place q p) places))
