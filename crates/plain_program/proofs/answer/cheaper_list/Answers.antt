use Rattle.std.proofs.Common.{◌<◌, ◌^◌, sym, subst, arith}
use Rattle.task_kit.specs.Bounds.{IsCheapestBelow}
use Rattle.case_kit.specs.Evaluated.{meant}
use Rattle.plain_program.proofs.RunLemmas.{cost_low, valid_listed}
use Rattle.plain_program.proofs.answer.cheaper_list.Goals as goal

pub sum_of-requires-clause-low : goal.sum_of-requires-clause-low
sum_of-requires-clause-low c = omega (arith, cost_low (meant c.in_ok-task.task) c.in_ok-task.task.in_range c.args.plan.now c.requires.short)

pub cheapest_below-requires : goal.cheapest_below-requires
cheapest_below-requires c = subst (λ n. n < 2 ^ 46) (sym c.sum_of.ensures) (cost_low (meant c.in_ok-task.task) c.in_ok-task.task.in_range c.args.plan.now c.requires.short)

pub sum_of-cost-requires-clause-listed : goal.sum_of-cost-requires-clause-listed
sum_of-cost-requires-clause-listed c =
    let task = meant c.in_ok-task.task in
    let found = subst (IsCheapestBelow task c.sum_of.result) c.in-Some.is c.in_ok-list.ensures in
    valid_listed task task.start c.in-Some.list found.0
