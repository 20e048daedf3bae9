use Rattle.std.proofs.Common.{ℕ, ◌≡◌, ◌+◌, ◌≤◌, ◌<◌, true, ◌⊎◌}
use Rattle.task_kit.specs.Bounds.{IsKnownWithin}
use Rattle.task_kit.specs.Tasks.{price, applies, after}
use Rattle.bound_cert.specs.Proven.{IsThere}
use Rattle.bound_cert.proofs.expanding.has_successors.Given as goal

abbrev pub invariant-loop-action : goal.invariant-loop-action
invariant-loop-action g l =
    record {
      into : l.into.width ≡ l.initial.into.width;
      kept : (action : ℕ) → action < l.action → applies (g.T.TaskView.seen l.task) action l.from.state.members ≡ true →
          (l.k ≤ l.from.number + price (g.T.TaskView.seen l.task) action)
          ⊎ IsKnownWithin (IsThere l.states) (after (g.T.TaskView.seen l.task) action l.from.state.members) (l.from.number + price (g.T.TaskView.seen l.task) action);
    }
