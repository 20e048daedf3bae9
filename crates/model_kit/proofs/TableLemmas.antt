-- How the table of function values grows, from the last value of the list to the first.
use Rattle.std.proofs.Common.{◌≡◌, ℕ, ◌+◌, ◌-◌, ◌<◌, ◌&&◌, cond, Some, List, ◌∷◌, drop, sym, ap, ◌∙◌, arith}
use Rattle.std.specs.Prelude.{slice_get, ◌==◌}
use Rattle.std.specs.Ordering.{is_eq}
use Rattle.std.specs.BTreeMap.{BTreeMap, Updates, get}
use Rattle.model_kit.specs.declared.values.FunctionTerm.{FunctionTerm}
use Rattle.model_kit.specs.Same.{same_numbers}
use Rattle.model_kit.specs.Places.{value_of}
use Rattle.model_kit.specs.Judging.{term_cmp}
use Rattle.mre_base.proofs.Loops.{drop_item}
use Rattle.model_kit.proofs.StateLemmas.{term_cmp-ties}

pub table_more : (values : List (ℕ × List ℕ × ℕ)) (i : ℕ) (v : ℕ × List ℕ × ℕ) → 0 < i → slice_get values (i - 1) ≡ Some v → (key : FunctionTerm) → key.function ≡ v.0 → key.objects ≡ v.1
    → (old new : BTreeMap FunctionTerm ℕ) → ((term : FunctionTerm) → get term_cmp old term ≡ value_of (drop i values) term.function term.objects)
    → Updates term_cmp old new key (Some v.2) → (term : FunctionTerm) → get term_cmp new term ≡ value_of (drop (i - 1) values) term.function term.objects
table_more values i v positive at key same_function same_objects old new before updates term =
    let back : i - 1 + 1 ≡ i = omega arith in
    let split : drop (i - 1) values ≡ v ∷ drop i values = drop_item values (i - 1) v at ∙ ap (λ j. v ∷ drop j values) back in
    updates.0 term
    ∙ (λ j. cond (ties j) (Some v.2) (before term j))
    ∙ ap (λ vs. value_of vs term.function term.objects) (sym split)
  where
    ties : is_eq (term_cmp key term) ≡ ((v.0 == term.function) && same_numbers v.1 term.objects)
    ties = term_cmp-ties key term ∙ (λ j. (same_function j == term.function) && same_numbers (same_objects j) term.objects)
