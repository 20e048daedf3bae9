use Rattle.std.proofs.Common.{◌≤◌, length}
use Rattle.task_kit.specs.Kept.{cuts_meaning}
use Rattle.relax_cuts.specs.Leaving.{Leave, AreCuts}
use Rattle.relax_cuts.proofs.cutting.found_cuts.Given as goal

abbrev pub invariant-loop : goal.invariant-loop
invariant-loop g l =
    record {
      cuts : AreCuts (g.T.TaskView.seen l.task) l.state.members l.cuts;
      leave : Leave (g.T.TaskView.seen l.task) (cuts_meaning (g.T.TaskView.seen l.task).atoms l.cuts) l.left.items;
      count : l.counter ≤ length l.cuts;
    }
