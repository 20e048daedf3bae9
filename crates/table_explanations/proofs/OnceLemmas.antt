-- There is never more than one first set.
use Rattle.std.proofs.Common.{◌≡◌, ℕ, ◌-◌, ◌≤◌, ◌<◌, true, List, length, replicate, slice_index, sym, subst, ◌∙◌, arith, inl, inr}
use Rattle.std.specs.Prelude.{◌≢◌}
use Rattle.std.proofs.lemmas.Bool.{true≢false}
use Rattle.std.proofs.lemmas.List.{get_or-replicate, length-replicate}
use Rattle.mre_base.specs.Before.{is_before}
use Rattle.cube_kit.specs.Cubes as cubes
use Rattle.cube_kit.specs.Cubes.{Told}
use Rattle.cube_kit.specs.Weighing.{AreWeights}
use Rattle.cube_kit.proofs.OrderLemmas.{order_law}
use Rattle.table_explanations.specs.Explanations.{Reconciliation, IsWithin, IsComplete, IsMonotonic, IsFirst, IsWeighed}
use Rattle.table_explanations.specs.Laws.{AtMostOne, OnceLaw}

-- no set is before itself, so a set is not equal to one that it is before
apart : (weights : List ℕ) (a b : Told) → is_before weights a b ≡ true → a ≢ b
apart weights a b before same =
    let itself = subst (λ z. is_before weights a z ≡ true) (sym same) before in
    true≢false (sym itself ∙ order_law.one_way weights a a itself)

-- the numbers of the differences are those that have weights
weighed_in : (q : Reconciliation) (told : Told) → IsWeighed q → IsWithin q told → cubes.IsWithin (length q.weights) told
weighed_in q told weighed = subst (λ n. cubes.IsWithin n told) (sym weighed.one_each)

-- of two firsts neither is before the other, so they are equal
first_once : (q : Reconciliation) (P : Told → Type 0) → IsWeighed q → AtMostOne (IsFirst q P)
first_once q P weighed a b one two =
    elim (order_law.total q.weights a b (weighed_in q a weighed one.within) (weighed_in q b weighed two.within)) [
      | inl same ↦ same
      | inr either ↦
          elim either [
            | inl before ↦
                absurd (true≢false (sym before ∙ order_law.one_way q.weights b a (two.first a one.within one.has (apart q.weights a b before))))
            | inr before ↦
                absurd (true≢false (sym before ∙ order_law.one_way q.weights a b (one.first b two.within two.has (apart q.weights b a before))))
          ]
    ]

inside : (place n d : ℕ) → n ≡ d → 1 ≤ place → place ≤ n → place - 1 < d
inside place n d same low high = omega arith

light : (w : ℕ) → w ≡ 1 → (1 ≤ w) × (w ≤ 1000000)
light w one = (omega arith, omega arith)

even_sized : (d : ℕ) → AreWeights (replicate d 1)
even_sized d place low high =
    light (slice_index (replicate d 1) (place - 1))
    (get_or-replicate d (place - 1) 1 0 (inside place (length (replicate d 1)) d (length-replicate d 1) low high))

pub once_law : OnceLaw
once_law = record {
  mce = λ q weighed. first_once q (IsComplete q) weighed;
  mme = λ q weighed. first_once q (IsMonotonic q) weighed;
  even = λ table plan. record { one_each = length-replicate table.d 1; sized = even_sized table.d };
}
