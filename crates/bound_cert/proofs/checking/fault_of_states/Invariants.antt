use Rattle.std.proofs.Common.{◌≡◌, ◌+◌, length, take, All}
use Rattle.bound_cert.specs.Lines.{lines, Keeps}
use Rattle.bound_cert.specs.Rooms.{IsScratchOf}
use Rattle.bound_cert.proofs.checking.fault_of_states.Given as goal

abbrev pub invariant-loop-place : goal.invariant-loop-place
invariant-loop-place g l =
    record {
      scratch : IsScratchOf (g.T.TaskView.seen l.task) l.scratch;
      line : l.line ≡ 2 + length (lines (g.T.TaskView.seen l.task).atoms (take l.place l.states));
      kept : All (Keeps (g.T.TaskView.seen l.task) l.k l.states) (lines (g.T.TaskView.seen l.task).atoms (take l.place l.states));
    }
