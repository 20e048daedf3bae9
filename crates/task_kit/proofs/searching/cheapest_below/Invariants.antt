use Rattle.std.proofs.Common.{◌≡◌, ◌+◌, ◌-◌, ◌*◌, ◌^◌, ◌≤◌, length}
use Rattle.task_kit.specs.Reached.{reached}
use Rattle.task_kit.specs.Searching.{IsTrail, AreSettled, IsFound}
use Rattle.task_kit.proofs.searching.cheapest_below.Given as goal

abbrev pub invariant-loop-at : goal.invariant-loop-at
invariant-loop-at g l =
    record {
      trail : IsTrail (g.T.TaskView.seen l.task) (reached l.table);
      settled : AreSettled (g.T.TaskView.seen l.task) l.found.bound (reached l.table);
      found : IsFound (g.T.TaskView.seen l.task) (reached l.table) l.k l.found.bound l.found.foil;
      low : l.found.bound ≤ l.k;
      from : l.scratch.from.width ≡ (g.T.TaskView.seen l.task).atoms + 1;
      into : l.scratch.into.width ≡ (g.T.TaskView.seen l.task).atoms + 1;
    }

abbrev pub decreases-loop-at : goal.decreases-loop-at
decreases-loop-at g l = 2 * (2 ^ 64 - length (reached l.table).nodes) + length (reached l.table).open_nodes
