use Rattle.std.proofs.Common.{ℕ, List, [], All, take}
use Rattle.task_kit.specs.Kept.{cuts_meaning}
use Rattle.bound_cert.specs.declared.proof.BoundState.{BoundState}
use Rattle.bound_cert.specs.Lines.{cut_lines, Keeps}
use Rattle.bound_cert.specs.Rooms.{IsScratchOf, AreCharged}
use Rattle.bound_cert.proofs.cutting.fault_in_cuts.Given as goal

abbrev pub invariant-loop-place : goal.invariant-loop-place
invariant-loop-place g l =
    record {
      scratch : IsScratchOf (g.T.TaskView.seen l.task) l.scratch;
      charged : AreCharged (g.T.TaskView.seen l.task) (cuts_meaning (g.T.TaskView.seen l.task).atoms (take l.place l.cuts)) l.scratch.charged.items;
      kept : (k : ℕ) (states : List BoundState) → All (Keeps (g.T.TaskView.seen l.task) k states) (cut_lines l.state.members [] (cuts_meaning (g.T.TaskView.seen l.task).atoms (take l.place l.cuts)));
    }
