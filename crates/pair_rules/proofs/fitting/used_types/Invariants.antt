use Rattle.pair_rules.specs.Fitting.{AreUsed}
use Rattle.pair_rules.proofs.fitting.used_types.Given as goal

abbrev pub invariant-loop-action : goal.invariant-loop-action
invariant-loop-action l = AreUsed l.words l.action l.used
