use Rattle.std.proofs.Common.{◌≡◌, take}
use Rattle.task_kit.specs.Tasks.{cost_of}
use Rattle.plain_program.proofs.trying.sum_of.Given as goal

abbrev pub invariant-loop-place : goal.invariant-loop-place
invariant-loop-place g l = l.sum ≡ cost_of (g.T.TaskView.seen l.task) (take l.place l.list)
