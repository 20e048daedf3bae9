use Rattle.std.proofs.Common.{◌∙◌, ap}
use Rattle.feature_diff.specs.Telling.{facts_of}
use Rattle.pair_tables.proofs.SchemaLemmas.{facts_are}
use Rattle.pair_tables.proofs.schemas.fact_features.Goals as goal

pub returns : goal.returns
returns c =
    facts_are c.args.pair.now.planner c.args.pair.now.user c.args.differences.now c.requires.all c.args.kind c.facts_in-planner.result.now c.facts_in-user.result.now
    (c.facts_in-planner.ensures ∙ ap (facts_of c.args.kind) c.planner.ensures) (c.facts_in-user.ensures ∙ ap (facts_of c.args.kind) c.user.ensures) c.in_ok-features_of.field-0 c.in_ok-features_of.ensures
