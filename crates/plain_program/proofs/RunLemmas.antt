-- Lists of a task: their actions are listed, and their costs are low.
use Rattle.std.proofs.Common.{◌≡◌, ℕ, ◌+◌, ◌*◌, ◌^◌, ◌≤◌, ◌<◌, zero, suc, List, [], ◌∷◌, length, Some, unwrap_or, sym, ap, ◌∙◌, arith, ⊎_elim, Fits, w64}
use Rattle.std.specs.Prelude.{All, slice_get, is_some, take, true}
use Rattle.std.specs.FinSet as set
use Rattle.std.proofs.lemmas.Bool.{true≢false, and_parts, cases_lt}
use Rattle.std.proofs.lemmas.List.Elements.{All-cons, All-nil}
use Rattle.std.proofs.lemmas.Option.{slice_get_past}
use Rattle.mre_base.proofs.Loops.{take_item}
use Rattle.task_kit.specs.Tasks.{Numbers, TaskMeaning, IsTask, no_action, action_at, cost_at, price, applies, after, IsValidFrom, cost_of}
use Rattle.task_kit.proofs.JudgeLemmas.{cost_of-push}

module _ (task : TaskMeaning) where
  -- an action that applies is listed
  applies_listed : (n : ℕ) (numbers : Numbers) → applies task n numbers ≡ true → n < length task.actions
  applies_listed n numbers does =
      ⊎_elim (λ lt. lt)
      (λ past. absurd (true≢false (sym (and_parts (is_some (cost_at task n)) (set.is_subset (action_at task n).pre numbers) does).0 ∙ ap (λ o. is_some (unwrap_or o no_action).cost) (slice_get_past task.actions n past))))
      (cases_lt n (length task.actions))

  pub valid_listed : (numbers : Numbers) (list : List ℕ) → IsValidFrom task numbers list → All (λ n. n < length task.actions) list
  valid_listed numbers [] valid = All-nil (λ n. n < length task.actions)
  valid_listed numbers (n ∷ list) valid =
      All-cons (λ k. k < length task.actions) n list (applies_listed n numbers valid.0) (valid_listed (after task n numbers) list valid.1)

  -- a list costs at most the greatest price for each of its actions
  pub cost_within : IsTask task → (list : List ℕ) → cost_of task list ≤ length list * 4294967295
  cost_within whole [] = omega arith
  cost_within whole (n ∷ list) = omega (arith, (whole.each n).cost, cost_within whole list)

  pub cost_low : IsTask task → (list : List ℕ) → length list ≤ 10000 → cost_of task list < 2 ^ 46
  cost_low whole list short = omega (arith, cost_within whole list)

  -- the first actions of a list cost no more than all
  pub cost_of-take : (list : List ℕ) (i : ℕ) → cost_of task (take i list) ≤ cost_of task list
  cost_of-take [] zero = omega arith
  cost_of-take [] (suc i) = omega arith
  cost_of-take (n ∷ list) zero = omega arith
  cost_of-take (n ∷ list) (suc i) = omega (arith, cost_of-take list i)

-- ---- the sum of costs, with one more action

module _ (task : TaskMeaning) (list : List ℕ) (i : ℕ) (n : ℕ) (at : slice_get list i ≡ Some n) (cost : ℕ) (is : cost ≡ price task n) (sum : ℕ) (before : sum ≡ cost_of task (take i list)) where
  pub sum_more : sum + cost ≡ cost_of task (take (i + 1) list)
  sum_more = (λ j. before j + is j) ∙ sym (ap (cost_of task) (take_item list i n at) ∙ cost_of-push task (take i list) n)

  pub sum_fits : cost_of task list < 2 ^ 64 → Fits w64 (sum + cost)
  sum_fits low = omega (arith, low, sum_more, cost_of-take task list (i + 1))
