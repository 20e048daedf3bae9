use Rattle.std.proofs.Common.{sym, ◌∙◌}
use Rattle.pddl_names.specs.declared.role.Says.TheVariants.{Initial, Goal}
use Rattle.pddl_models.specs.Says.{has_metric}
use Rattle.pddl_models.proofs.FactLemmas.{said_facts, said_values, values_fit}
use Rattle.pddl_models.proofs.ModelLemmas.{all_fit, metric_schemas}
use Rattle.pddl_models.proofs.SchemaLemmas.{said_schemas}
use Rattle.pddl_models.proofs.models.model_of.Goals as goal

pub invariant_of-result : goal.invariant_of-result
invariant_of-result c = record {
  sound = all_fit c.args.words c.in_ok-init.init c.in_ok-goal.goal c.in_ok-schemas.schemas c.in_ok-values.values c.empty.result
      (said_facts c.args.domain.now.words c.args.said.now c.args.words c.requires.more c.requires.problem c.requires.calls c.requires.named Initial c.in_ok-init.init (c.in_ok-init.ensures.ok c.args.words c.in_ok-tables.ensures.ok))
      (said_facts c.args.domain.now.words c.args.said.now c.args.words c.requires.more c.requires.problem c.requires.calls c.requires.named Goal c.in_ok-goal.goal (c.in_ok-goal.ensures.ok c.args.words c.in_ok-tables.ensures.ok))
      (said_schemas c.args.domain.now.words c.args.said.now c.args.words c.requires.more c.has_metric.result c.args.domain.now.bodies c.in_ok-schemas.schemas c.args.domain.now.sound c.in_ok-schemas.ensures.ok)
      (values_fit c.args.domain.now.words c.args.said.now c.args.words c.requires.more c.requires.problem c.requires.calls c.requires.named c.in_ok-values.values (c.in_ok-values.ensures.ok c.args.words c.in_ok-tables.ensures.ok))
      c.empty.ensures;
}

pub returns : goal.returns
returns c = record {
  ok = record {
    words = c.requires.more;
    init = c.in_ok-init.ensures.ok c.args.words c.in_ok-tables.ensures.ok;
    goal = c.in_ok-goal.ensures.ok c.args.words c.in_ok-tables.ensures.ok;
    schemas = metric_schemas c.has_metric.result (has_metric c.args.said.now) c.args.domain.now.bodies c.in_ok-schemas.schemas c.has_metric.ensures c.in_ok-schemas.ensures.ok;
    values = c.in_ok-values.ensures.ok c.args.words c.in_ok-tables.ensures.ok
        ∙ sym (said_values c.args.domain.now.words c.args.said.now c.args.words c.requires.more c.requires.problem c.requires.calls c.requires.named);
    unknown = c.empty.ensures;
  };
}
