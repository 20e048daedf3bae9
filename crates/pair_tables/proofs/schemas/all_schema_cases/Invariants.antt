use Rattle.pair_rules.specs.Ruled.{models_of}
use Rattle.pair_tables.specs.Schemas.{AreSchemaCases}
use Rattle.pair_tables.proofs.schemas.all_schema_cases.Given as goal

abbrev pub invariant-loop-action : goal.invariant-loop-action
invariant-loop-action l = AreSchemaCases (models_of l.pair.planner l.pair.user l.differences) l.action l.schemas
