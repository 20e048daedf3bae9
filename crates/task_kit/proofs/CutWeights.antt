-- The weights of lists of cuts: of two lists one after the other, of a list with one cut more, and
-- of the cuts that count an action that isn't listed.
use Rattle.std.proofs.Common.{◌≡◌, ℕ, ◌+◌, ◌≤◌, Bool, true, false, cond, List, [], ◌∷◌, ◌++◌, length, refl, sym, ap, ◌∙◌, arith, unwrap_or, is_some, slice_get}
use Rattle.std.proofs.lemmas.Bool.{and_parts, false≢true, false_from_ne_true}
use Rattle.std.proofs.lemmas.Option.{slice_get_past}
use Rattle.task_kit.specs.Tasks.{Numbers, ActionMeaning, TaskMeaning, no_action, applies}
use Rattle.task_kit.specs.Cuts.{CutMeaning, counts, weight_of, weights}

-- ---- one cut more
add_three : (a b c : ℕ) → a + (b + c) ≡ a + b + c
add_three a b c = omega arith

pub weight_of-append : (test : CutMeaning → Bool) (xs ys : List CutMeaning) → weight_of test (xs ++ ys) ≡ weight_of test xs + weight_of test ys
weight_of-append test [] ys = omega arith
weight_of-append test (x ∷ xs) ys = ap (λ n. cond (test x) x.weight 0 + n) (weight_of-append test xs ys) ∙ add_three _ _ _

pub weight_of-push : (test : CutMeaning → Bool) (xs : List CutMeaning) (x : CutMeaning) → weight_of test (xs ++ x ∷ []) ≡ weight_of test xs + cond (test x) x.weight 0
weight_of-push test xs x = weight_of-append test xs (x ∷ []) ∙ ap (λ n. weight_of test xs + n) (last (cond (test x) x.weight 0)) where
  last : (n : ℕ) → n + 0 ≡ n
  last n = omega arith

pub weights-push : (xs : List CutMeaning) (x : CutMeaning) → weights (xs ++ x ∷ []) ≡ weights xs + x.weight
weights-push [] x = omega arith
weights-push (y ∷ xs) x = ap (λ n. y.weight + n) (weights-push xs x) ∙ add_three y.weight (weights xs) x.weight

-- ---- actions that aren't listed: they never apply, and no cut counts them
pub none_at : (xs : List ActionMeaning) (i : ℕ) → length xs ≤ i → unwrap_or (slice_get xs i) no_action ≡ no_action
none_at xs i past = ap (λ o. unwrap_or o no_action) (slice_get_past xs i past)

pub never_applies : (task : TaskMeaning) (action : ℕ) (state : Numbers) → length task.actions ≤ action → applies task action state ≡ true → ⊥
never_applies task action state past does = false≢true (sym (ap (λ a. is_some a.cost) (none_at task.actions action past)) ∙ (and_parts _ _ does).0)

pub not_counted : (task : TaskMeaning) (action : ℕ) (cuts : List CutMeaning) → length task.actions ≤ action → weight_of (counts task action) cuts ≡ 0
not_counted task action [] past = refl
not_counted task action (cut ∷ cuts) past =
    let never : counts task action cut ≡ false = false_from_ne_true _ (λ yes. never_applies task action cut.among past (and_parts _ _ yes).0) in
    ap (λ b. cond b cut.weight 0 + weight_of (counts task action) cuts) never ∙ ap (λ n. 0 + n) (not_counted task action cuts past)
