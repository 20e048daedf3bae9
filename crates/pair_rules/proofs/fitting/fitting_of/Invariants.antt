use Rattle.pair_rules.specs.Fitting.{AreFitting}
use Rattle.pair_rules.proofs.fitting.fitting_of.Given as goal

abbrev pub invariant-loop-kind : goal.invariant-loop-kind
invariant-loop-kind l = AreFitting l.words l.kind l.made
