use Rattle.std.proofs.Common.{sym, ap, ◌∙◌, drop, ◌+◌}
use Rattle.mre_base.proofs.Loops.{drop_item}
use Rattle.pddl_models.specs.Says.{has_metric}
use Rattle.pddl_models.proofs.SayingLemmas.{metric_here, metric_later}
use Rattle.pddl_models.proofs.models.has_metric.Goals as goal

pub returns-then-minimizes : goal.returns-then-minimizes
returns-then-minimizes c =
    sym (metric_here c.item.result.now (drop (c.loop-place.place + 1) c.args.said.now) (sym c.minimizes.ensures ∙ c.if-minimizes.true))
    ∙ sym (ap has_metric (drop_item c.args.said.now c.loop-place.place c.item.result.now c.item.ensures))
    ∙ c.loop-place.invariant

pub loop-place-preserved : goal.loop-place-preserved
loop-place-preserved c =
    sym (metric_later c.item.result.now (drop (c.loop-place.place + 1) c.args.said.now) (sym c.minimizes.ensures ∙ c.if-minimizes.false))
    ∙ sym (ap has_metric (drop_item c.args.said.now c.loop-place.place c.item.result.now c.item.ensures))
    ∙ c.loop-place.invariant
