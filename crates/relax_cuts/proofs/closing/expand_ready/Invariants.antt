use Rattle.std.proofs.Common.{◌≡◌, ◌+◌, length}
use Rattle.relax_cuts.specs.Closing.{Spreads}
use Rattle.relax_cuts.specs.BlockedSize.{HasRoom}
use Rattle.relax_cuts.proofs.closing.expand_ready.Given as goal

abbrev pub invariant-loop : goal.invariant-loop
invariant-loop g l =
    record {
      spreads : Spreads (g.T.TaskView.seen l.task) l.left.items l.limit l.initial.growing.among.members l.growing.among.members;
      among : l.growing.among.width ≡ l.initial.growing.among.width;
      skipped : l.growing.skipped.width ≡ l.initial.growing.skipped.width;
      room : HasRoom ((g.T.TaskView.seen l.task).atoms + 1) (length (g.T.TaskView.seen l.task).actions) l.blocked;
    }
