-- The list of the numbers below a bound that a set lacks.
use Rattle.std.proofs.Common.{◌≡◌, ℕ, ◌+◌, ◌≤◌, ◌<◌, true, false, ◌||◌, not, nat_eq, List, [], ◌∷◌, ◌++◌, length, All, sym, ap, ◌∙◌, arith, subst, inl, inr}
use Rattle.std.proofs.lemmas.Bool.{cases_lt, eq-eqb, ne_eqb, false_from_ne_true}
use Rattle.std.proofs.lemmas.List.{get_or_append_left, get_or_push}
use Rattle.std.proofs.lemmas.List.Elements.{All-nil, All-push, All-weaker}
use Rattle.std.specs.Cmp.{nat_cmp_total}
use Rattle.std.specs.FinSet as set
use Rattle.std.specs.FinSet.{from_list_push, nat_cmp-IsAntisymmetric}
use Rattle.std.specs.List.Sorted.{IsStrictlyIncreasing}
use Rattle.mre_base.proofs.SetsBelow.{contains-insert_nat}
use Rattle.task_kit.specs.Kept.{all_but}
use Rattle.task_kit.specs.Tasks.{Numbers, AllBelow, set_of}
use Rattle.task_kit.proofs.KeptLemmas.{below_listed}
use Rattle.task_kit.proofs.CutLemmas.{all_but-is}
use Rattle.task_kit.proofs.PlaceLemmas.{length_pushed}

-- the list has exactly the numbers below the bound that the set lacks, in ascending order
pub record ListsLacks (bound : ℕ) (among : Numbers) (lacks : List ℕ) : Type 0 where
  pub each : (k : ℕ) → k < bound → set.contains (set_of lacks) k ≡ not (set.contains among k)
  pub ascending : IsStrictlyIncreasing lacks
  pub below : All (λ atom. atom < bound) lacks

at_two : (a b x y : ℕ) → a ≡ x → b ≡ y → x < y → a < b
at_two a b x y one two lt = omega arith

ascending_push : (xs : List ℕ) (x : ℕ) → IsStrictlyIncreasing xs → All (λ y. y < x) xs → IsStrictlyIncreasing (xs ++ x ∷ [])
ascending_push xs x up below k lt =
    elim (cases_lt (k + 1) (length xs)) [
      | inl less ↦ at_two _ _ _ _ (get_or_append_left xs (x ∷ []) 0 k (omega arith)) (get_or_append_left xs (x ∷ []) 0 (k + 1) less) (up k less)
      | inr past ↦
          let last : length xs ≡ k + 1 = omega (arith, length_pushed xs x) in
          at_two _ _ _ _ (get_or_append_left xs (x ∷ []) 0 k (omega arith)) (get_or_push xs x 0 (k + 1) last) (below k 0 (omega arith))
    ]

more : (bound x y : ℕ) → y < bound → y < bound + 1
more bound x y lt = omega arith

module _ (bound : ℕ) (among : Numbers) (lacks : List ℕ) (lists : ListsLacks bound among lacks) where
  unlisted : set.contains (set_of lacks) bound ≡ false
  unlisted = false_from_ne_true _ (λ there. absurd (not_below bound (below_listed bound lacks lists.below bound there))) where
    not_below : (n : ℕ) → n < n → ⊥
    not_below n lt = omega arith

  pub lists_same : set.contains among bound ≡ true → ListsLacks (bound + 1) among lacks
  lists_same there = record { each = each; ascending = lists.ascending; below = All-weaker (λ y. y < bound) (λ y. y < bound + 1) (more bound 0) lacks lists.below } where
    each : (k : ℕ) → k < bound + 1 → set.contains (set_of lacks) k ≡ not (set.contains among k)
    each k lt = elim (cases_lt k bound) [
      | inl less ↦ lists.each k less
      | inr past ↦
          let same : k ≡ bound = omega arith in
          ap (set.contains (set_of lacks)) same ∙ unlisted ∙ sym (ap (λ j. not (set.contains among j)) same ∙ ap not there)
    ]

  pub lists_more : (new : List ℕ) → new ≡ lacks ++ bound ∷ [] → set.contains among bound ≡ false → ListsLacks (bound + 1) among new
  lists_more new e out =
      subst (ListsLacks (bound + 1) among) (sym e) (record {
        each = each;
        ascending = ascending_push lacks bound lists.ascending lists.below;
        below = All-push (λ y. y < bound + 1) lacks bound (All-weaker (λ y. y < bound) (λ y. y < bound + 1) (more bound 0) lacks lists.below) (omega arith);
      })
    where
      pushed : (k : ℕ) → set.contains (set_of (lacks ++ bound ∷ [])) k ≡ (nat_eq k bound || set.contains (set_of lacks) k)
      pushed k = ap (λ s. set.contains s k) (from_list_push nat_cmp_total nat_cmp-IsAntisymmetric lacks bound) ∙ contains-insert_nat (set_of lacks) bound k

      each : (k : ℕ) → k < bound + 1 → set.contains (set_of (lacks ++ bound ∷ [])) k ≡ not (set.contains among k)
      each k lt = elim (cases_lt k bound) [
        | inl less ↦ pushed k ∙ ap (λ b. b || set.contains (set_of lacks) k) (ne_eqb k bound (λ e. absurd (omega arith))) ∙ lists.each k less
        | inr past ↦
            let same : k ≡ bound = omega arith in
            pushed k ∙ ap (λ b. b || set.contains (set_of lacks) k) (eq-eqb k bound same) ∙ sym (ap (λ j. not (set.contains among j)) same ∙ ap not out)
      ]

-- the list is that of a cut with this set
pub lists_all : (bound at : ℕ) (among : Numbers) (lacks : List ℕ) → ListsLacks at among lacks → bound ≤ at → AllBelow bound among → all_but bound lacks ≡ among
lists_all bound at among lacks lists le below = all_but-is bound lacks among below (λ k lt. lists.each k (omega arith))
