use Rattle.std.proofs.Common.{arith}
use Rattle.case_kit.specs.Evaluated.{meant}
use Rattle.plain_program.proofs.RunLemmas.{cost_low}
use Rattle.plain_program.proofs.trying.cost_after.Goals as goal

pub sum_of-requires-clause-low : goal.sum_of-requires-clause-low
sum_of-requires-clause-low c = omega (arith, cost_low (meant c.in_ok-task.task) c.in_ok-task.task.in_range c.args.plan.now c.requires.short)
