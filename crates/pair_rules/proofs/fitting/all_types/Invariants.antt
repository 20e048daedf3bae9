use Rattle.pair_rules.specs.Fitting.{AreObjectsOf}
use Rattle.pair_rules.proofs.fitting.all_types.Given as goal

abbrev pub invariant-loop-object : goal.invariant-loop-object
invariant-loop-object l = AreObjectsOf l.words l.object l.made
