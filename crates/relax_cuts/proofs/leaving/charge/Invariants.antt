use Rattle.std.proofs.Common.{ℕ, ◌≡◌, ◌+◌, ◌≤◌, ◌<◌, cond, length, slice_index}
use Rattle.relax_cuts.specs.Leaving.{is_counted}
use Rattle.relax_cuts.proofs.leaving.charge.Given as goal

abbrev pub invariant-loop-action : goal.invariant-loop-action
invariant-loop-action g l =
    record {
      sized : length l.left.items ≡ length l.initial.left.items;
      each : (action : ℕ) → action < l.action →
          slice_index l.left.items action + cond (is_counted (g.T.TaskView.seen l.task) action l.among.members) l.weight 0 ≡ slice_index l.initial.left.items action;
      rest : (action : ℕ) → l.action ≤ action → slice_index l.left.items action ≡ slice_index l.initial.left.items action;
    }
