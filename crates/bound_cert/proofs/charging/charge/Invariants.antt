use Rattle.std.proofs.Common.{ℕ, ◌≡◌, ◌+◌, ◌≤◌, ◌<◌, length, slice_index}
use Rattle.task_kit.specs.Tasks.{price}
use Rattle.bound_cert.specs.Rooms.{charge_by}
use Rattle.bound_cert.proofs.charging.charge.Given as goal

abbrev pub invariant-loop-action : goal.invariant-loop-action
invariant-loop-action g l =
    record {
      sized : length l.charged.items ≡ length l.initial.charged.items;
      sums : (action : ℕ) → action < l.action → slice_index l.charged.items action ≡ slice_index l.initial.charged.items action + charge_by (g.T.TaskView.seen l.task) (record { weight = l.weight; among = l.among.members }) action;
      within : (action : ℕ) → action < l.action → slice_index l.charged.items action ≤ price (g.T.TaskView.seen l.task) action;
      rest : (action : ℕ) → l.action ≤ action → slice_index l.charged.items action ≡ slice_index l.initial.charged.items action;
    }
