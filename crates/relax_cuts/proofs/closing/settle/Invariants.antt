use Rattle.std.proofs.Common.{◌≡◌}
use Rattle.relax_cuts.specs.Closing.{Spreads}
use Rattle.relax_cuts.proofs.GrowLemmas.{lacked_below}
use Rattle.relax_cuts.proofs.closing.settle.Given as goal

abbrev pub invariant-loop-atom : goal.invariant-loop-atom
invariant-loop-atom g l =
    record {
      spreads : Spreads (g.T.TaskView.seen l.task) l.left.items 0 l.initial.among.members l.among.members;
      width : l.among.width ≡ l.initial.among.width;
    }

abbrev pub decreases-loop-atom : goal.decreases-loop-atom
decreases-loop-atom g l = lacked_below (g.T.TaskView.seen l.task).atoms l.among.members
