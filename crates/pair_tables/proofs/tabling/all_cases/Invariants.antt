use Rattle.pair_rules.specs.Ruled.{models_of}
use Rattle.pair_tables.specs.Made.{AreActionsUpTo}
use Rattle.pair_tables.specs.Numbers.{number_by}
use Rattle.pair_tables.proofs.tabling.all_cases.Given as goal

abbrev pub invariant-loop-place : goal.invariant-loop-place
invariant-loop-place l = AreActionsUpTo (models_of l.pair.planner l.pair.user l.differences) (number_by l.numbers) l.actions l.place l.made
