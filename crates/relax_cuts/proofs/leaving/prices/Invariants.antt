use Rattle.std.proofs.Common.{ℕ, ◌≡◌, ◌<◌, length, slice_index}
use Rattle.task_kit.specs.Tasks.{price}
use Rattle.relax_cuts.proofs.leaving.prices.Given as goal

abbrev pub invariant-loop-action : goal.invariant-loop-action
invariant-loop-action g l =
    record {
      sized : length l.left.items ≡ l.action;
      each : (action : ℕ) → action < l.action → slice_index l.left.items action ≡ price (g.T.TaskView.seen l.task) action;
    }
