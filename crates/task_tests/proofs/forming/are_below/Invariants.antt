use Rattle.std.proofs.Common.{◌<◌, take, All}
use Rattle.task_tests.proofs.forming.are_below.Given as goal

abbrev pub invariant-loop-atom : goal.invariant-loop-atom
invariant-loop-atom l = All (λ atom. atom < l.bound) (take l.atom-index l.atoms)
