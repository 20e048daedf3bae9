use Rattle.relax_cuts.specs.Settlings.{IsSettling}
use Rattle.relax_cuts.proofs.values.expand_ready.Given as goal

abbrev pub invariant-loop : goal.invariant-loop
invariant-loop g l = IsSettling (g.T.TaskView.seen l.task) l.settling
