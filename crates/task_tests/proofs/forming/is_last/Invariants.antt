use Rattle.std.proofs.Common.{ℕ, ◌≡◌, ◌<◌, true, Some, slice_get}
use Rattle.bound_cert.specs.declared.proof.BoundState.{BoundState}
use Rattle.bound_cert.specs.Formed.{is_listed_before}
use Rattle.task_tests.proofs.forming.is_last.Given as goal

abbrev pub invariant-loop-place : goal.invariant-loop-place
invariant-loop-place l =
    (place : ℕ) (s t : BoundState) → slice_get l.states place ≡ Some s → slice_get l.states l.later ≡ Some t → place < l.place → is_listed_before s.state t.state ≡ true
