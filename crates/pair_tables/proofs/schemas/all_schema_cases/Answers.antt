use Rattle.pair_rules.specs.Ruled.{models_of}
use Rattle.pair_tables.proofs.SchemaLemmas.{schemas_more}
use Rattle.pair_tables.proofs.schemas.all_schema_cases.Goals as goal

pub loop-action-preserved : goal.loop-action-preserved
loop-action-preserved c =
    schemas_more (models_of c.args.pair.now.planner c.args.pair.now.user c.args.differences.now) c.loop-action.action c.loop-action.schemas c.push.new.self c.in_ok-schema_cases.field-0 c.loop-action.invariant c.in_ok-schema_cases.ensures
    c.in_ok-push.ensures.ok
