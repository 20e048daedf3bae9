use Rattle.std.proofs.Common.{◌≡◌, ◌+◌, length}
use Rattle.task_kit.specs.Tasks.{action_at}
use Rattle.relax_cuts.specs.Closing.{AddsSome}
use Rattle.relax_cuts.specs.BlockedSize.{HasRoom}
use Rattle.relax_cuts.proofs.closing.put_adds.Given as goal

abbrev pub invariant-loop : goal.invariant-loop
invariant-loop g l =
    record {
      adds : AddsSome (action_at (g.T.TaskView.seen l.task) l.action).add l.initial.growing.among.members l.growing.among.members;
      among : l.growing.among.width ≡ l.initial.growing.among.width;
      skipped : l.growing.skipped.width ≡ l.initial.growing.skipped.width;
      room : HasRoom ((g.T.TaskView.seen l.task).atoms + 1) (length (g.T.TaskView.seen l.task).actions) l.blocked;
    }
