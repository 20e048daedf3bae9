use Rattle.std.proofs.Common.{◌≡◌, take, All}
use Rattle.task_tests.proofs.forming.are_wide.Given as goal

abbrev pub invariant-loop-place : goal.invariant-loop-place
invariant-loop-place l = All (λ s. s.state.width ≡ l.width) (take l.place l.states)
