use Rattle.pair_rules.specs.Made.{AreRulesMade}
use Rattle.pair_rules.proofs.ruling.all_rules.Given as goal

abbrev pub invariant-loop-action : goal.invariant-loop-action
invariant-loop-action l = AreRulesMade l.pair.planner l.pair.user l.differences l.action l.rules
