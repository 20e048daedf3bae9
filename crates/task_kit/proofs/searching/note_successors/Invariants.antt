use Rattle.std.proofs.Common.{◌≡◌, ℕ, ◌<◌}
use Rattle.task_kit.specs.Reached.{reached}
use Rattle.task_kit.specs.Searching.{IsTrail, Grows, IsReached}
use Rattle.task_kit.proofs.searching.note_successors.Given as goal

abbrev pub invariant-loop-action : goal.invariant-loop-action
invariant-loop-action g l =
    record {
      trail : IsTrail (g.T.TaskView.seen l.task) (reached l.table);
      grows : Grows (reached l.initial.table) (reached l.table);
      reached : (action : ℕ) → action < l.action → IsReached (g.T.TaskView.seen l.task) l.expansion.bound (reached l.table) l.initial.scratch.from.members l.expansion.node.cost action;
      from : l.scratch.from ≡ l.initial.scratch.from;
      into : l.scratch.into.width ≡ l.initial.scratch.into.width;
    }
