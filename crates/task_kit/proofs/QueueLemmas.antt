-- The places of an open list after a permutation with one pair more or less.
use Rattle.std.proofs.Common.{◌≡◌, ℕ, List, ◌∷◌, map, ◌⊎◌, inl, inr, sym, ap, subst, arith}
use Rattle.std.specs.declared.cmp.Reverse.{Reverse}
use Rattle.std.specs.List.Sorted.{IsPermutation}
use Rattle.std.proofs.lemmas.List.Sorted.{Contains-permutation, IsPermutation-map, IsPermutation-sym, length_permutation}
use Rattle.mre_base.proofs.Loops.{contains_here, contains_later, contains_cases}
use Rattle.task_kit.specs.Queues.{IsOpen, Puts, Takes}

-- the pair of an item, whose order the heap reverses
abbrev pub pair_of : Reverse (ℕ × ℕ) → ℕ × ℕ
pair_of r = r.0

open_cases : (cost place : ℕ) (xs : List (ℕ × ℕ)) (p : ℕ) → IsOpen ((cost, place) ∷ xs) p → (p ≡ place) ⊎ IsOpen xs p
open_cases cost place xs p (c, there) =
    elim (contains_cases (cost, place) xs (c, p) there) [
      | inl e ↦ inl (ap (λ q. q.1) (sym e))
      | inr h ↦ inr (c, h)
    ]

puts : (old new : List (ℕ × ℕ)) (cost place : ℕ) → IsPermutation ((cost, place) ∷ old) new → Puts old place new
puts old new cost place moved =
    record {
      is_open = (cost, Contains-permutation _ _ _ moved (contains_here (cost, place) old));
      others = λ p w. (w.0, Contains-permutation _ _ _ moved (contains_later (cost, place) old (w.0, p) w.1));
      only = λ p w. open_cases cost place old p (w.0, Contains-permutation _ _ _ (IsPermutation-sym _ _ moved) w.1);
      one_more = omega (arith, length_permutation _ _ moved);
    }

takes : (old new : List (ℕ × ℕ)) (cost place : ℕ) → IsPermutation old ((cost, place) ∷ new) → Takes old place new
takes old new cost place moved =
    record {
      was_open = (cost, Contains-permutation _ _ _ (IsPermutation-sym _ _ moved) (contains_here (cost, place) new));
      others = λ p w. open_cases cost place new p (w.0, Contains-permutation _ _ _ moved w.1);
      only = λ p w. (w.0, Contains-permutation _ _ _ (IsPermutation-sym _ _ moved) (contains_later (cost, place) new (w.0, p) w.1));
      one_less = omega (arith, length_permutation _ _ moved);
    }

-- ---- the same over the items of the heap
pub puts_in : (old : List (ℕ × ℕ)) (items new : List (Reverse (ℕ × ℕ))) (cost place : ℕ) → map pair_of items ≡ old → IsPermutation (record { 0 = (cost, place) } ∷ items) new → Puts old place (map pair_of new)
puts_in old items new cost place e moved = subst (λ q. Puts q place (map pair_of new)) e (puts (map pair_of items) (map pair_of new) cost place (IsPermutation-map pair_of _ _ moved))

pub takes_out : (old : List (ℕ × ℕ)) (items new : List (Reverse (ℕ × ℕ))) (item : Reverse (ℕ × ℕ)) → map pair_of items ≡ old → IsPermutation items (item ∷ new) → Takes old (pair_of item).1 (map pair_of new)
takes_out old items new item e moved =
    subst (λ q. Takes q (pair_of item).1 (map pair_of new)) e (takes (map pair_of items) (map pair_of new) (pair_of item).0 (pair_of item).1 (IsPermutation-map pair_of _ _ moved))
