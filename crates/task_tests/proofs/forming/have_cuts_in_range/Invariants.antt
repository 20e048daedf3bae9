use Rattle.std.proofs.Common.{take, All}
use Rattle.bound_cert.specs.Formed.{IsInRange, cuts_of}
use Rattle.task_tests.proofs.forming.have_cuts_in_range.Given as goal

abbrev pub invariant-loop-place : goal.invariant-loop-place
invariant-loop-place l = All (λ s. All (IsInRange l.atoms) (cuts_of s.how)) (take l.place l.states)
