use Rattle.std.proofs.Common.{◌≡◌, ◌+◌}
use Rattle.relax_cuts.proofs.adding.Adding.for_task.Given as goal

abbrev pub invariant-loop-action : goal.invariant-loop-action
invariant-loop-action g l = l.listed.width ≡ (g.T.TaskView.seen l.task).atoms + 1
