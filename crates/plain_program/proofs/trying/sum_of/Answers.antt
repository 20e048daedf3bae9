use Rattle.std.proofs.Common.{ap, ◌∙◌}
use Rattle.std.specs.Prelude.{unwrap_or}
use Rattle.plain_program.proofs.RunLemmas.{sum_more, sum_fits}
use Rattle.plain_program.proofs.trying.sum_of.Goals as goal

pub overflow_add-sum : goal.overflow_add-sum
overflow_add-sum g c =
    sum_fits (g.T.TaskView.seen c.args.task.now) c.args.list.now c.loop-place.place c.item.result.now c.item.ensures c.from-sum.result
    (c.from-sum.ensures ∙ c.unwrap_or.ensures ∙ ap (λ o. unwrap_or o 0) c.cost.ensures) c.loop-place.sum c.loop-place.invariant c.requires.low

pub loop-place-preserved : goal.loop-place-preserved
loop-place-preserved g c =
    sum_more (g.T.TaskView.seen c.args.task.now) c.args.list.now c.loop-place.place c.item.result.now c.item.ensures c.from-sum.result
    (c.from-sum.ensures ∙ c.unwrap_or.ensures ∙ ap (λ o. unwrap_or o 0) c.cost.ensures) c.loop-place.sum c.loop-place.invariant
