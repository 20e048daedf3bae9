use Rattle.std.proofs.Common.{◌<◌, All}
use Rattle.task_tests.proofs.making.list_below.Given as goal

abbrev pub invariant-loop-number : goal.invariant-loop-number
invariant-loop-number l = All (λ x. x < l.bound) l.list
