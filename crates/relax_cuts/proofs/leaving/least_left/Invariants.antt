use Rattle.relax_cuts.specs.Leaving.{IsWeight}
use Rattle.relax_cuts.proofs.leaving.least_left.Given as goal

abbrev pub invariant-loop-action : goal.invariant-loop-action
invariant-loop-action g l = IsWeight (g.T.TaskView.seen l.task) l.action l.left.items l.among.members l.least
