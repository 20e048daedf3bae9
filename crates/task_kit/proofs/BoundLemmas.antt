-- Numbered states show a bound. One list is followed at a time: from a known state, its cost and
-- the state's number are together at least k.
use Rattle.std.proofs.Common.{◌≡◌, ℕ, zero, suc, ◌+◌, ◌≤◌, ◌<◌, inl, inr, List, [], ◌∷◌, refl, sym, ◌∙◌, arith}
use Rattle.std.proofs.lemmas.Bool.{true≢false}
use Rattle.task_kit.specs.Tasks.{Numbers, TaskMeaning, price, after, IsValidFrom, IsValid, cost_of}
use Rattle.task_kit.specs.Bounds.{HasNoCheaper, IsExpanded, Shows, IsListed, BoundLaw}

less_far : (k number smaller cost : ℕ) → smaller < number → k ≤ smaller + cost → k ≤ number + cost
less_far k number smaller cost lt le = omega arith

add_step : (k number step cost : ℕ) → k ≤ number + step → k ≤ number + (step + cost)
add_step k number step cost le = omega arith

after_step : (k number step cost smaller : ℕ) → smaller ≤ number + step → k ≤ smaller + cost → k ≤ number + (step + cost)
after_step k number step cost smaller le far = omega arith

from_zero : (k cost : ℕ) → k ≤ 0 + cost → k ≤ cost
from_zero k cost le = omega arith

module _ (task : TaskMeaning) (k : ℕ) (known : Numbers → ℕ → Type 0) (shows : Shows task k known) where
  -- for one list, what holds of expanded states holds of each known one, by going down the numbers
  known_far : (list : List ℕ)
      → ((state : Numbers) (number : ℕ) → IsExpanded task k known state number → IsValidFrom task state list → k ≤ number + cost_of task list)
      → (fuel : ℕ) (state : Numbers) (number : ℕ) → number < fuel → known state number → IsValidFrom task state list → k ≤ number + cost_of task list
  known_far list expanded zero state number lt is valid = absurd (omega arith)
  known_far list expanded (suc fuel) state number lt is valid =
      elim (shows.each state number is) [
        | inl e ↦ expanded state number e valid
        | inr o ↦ elim o [
          | inl far ↦ far list valid
          | inr m ↦ less_far k number m.0 _ m.2 (known_far list expanded fuel state m.0 (omega (arith, m.2)) m.1 valid)
        ]
      ]

  expanded_far : (list : List ℕ) (state : Numbers) (number : ℕ) → IsExpanded task k known state number → IsValidFrom task state list → k ≤ number + cost_of task list
  expanded_far [] state number e valid = absurd (true≢false (sym valid ∙ e.lacks_goal))
  expanded_far (action ∷ list) state number e valid =
      elim (e.successors action valid.0) [
        | inl le ↦ add_step k number (price task action) (cost_of task list) le
        | inr s ↦ after_step k number (price task action) (cost_of task list) s.0 s.2 (known_far list (expanded_far list) (s.0 + 1) (after task action state) s.0 (omega arith) s.1 valid.1)
      ]

  at_start : (list : List ℕ) → known task.start 0 → IsValid task list → k ≤ cost_of task list
  at_start list is valid = from_zero k (cost_of task list) (known_far list (expanded_far list) 1 task.start 0 (omega arith) is valid)

  -- the law for numbered states that are known in any sense
  pub no_cheaper : HasNoCheaper task k
  no_cheaper list valid = by_bound k refl where
    by_bound : (n : ℕ) → k ≡ n → k ≤ cost_of task list
    by_bound zero e = omega arith
    by_bound (suc n) e = at_start list (shows.start (omega arith)) valid

pub bound_law : BoundLaw
bound_law task k states shows = no_cheaper task k (IsListed states) shows
