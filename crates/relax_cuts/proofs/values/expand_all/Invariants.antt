use Rattle.relax_cuts.specs.Settlings.{IsSettling}
use Rattle.relax_cuts.proofs.values.expand_all.Given as goal

abbrev pub invariant-loop-action : goal.invariant-loop-action
invariant-loop-action g l = IsSettling (g.T.TaskView.seen l.task) l.settling
