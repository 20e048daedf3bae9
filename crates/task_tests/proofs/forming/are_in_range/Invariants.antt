use Rattle.std.proofs.Common.{take, All}
use Rattle.bound_cert.specs.Formed.{IsInRange}
use Rattle.task_tests.proofs.forming.are_in_range.Given as goal

abbrev pub invariant-loop-place : goal.invariant-loop-place
invariant-loop-place l = All (IsInRange l.atoms) (take l.place l.cuts)
