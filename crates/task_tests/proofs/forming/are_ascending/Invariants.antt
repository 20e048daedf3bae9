use Rattle.std.proofs.Common.{ℕ, ◌≡◌, ◌<◌, true, Some, slice_get}
use Rattle.bound_cert.specs.declared.proof.BoundState.{BoundState}
use Rattle.bound_cert.specs.Formed.{is_listed_before}
use Rattle.task_tests.proofs.forming.are_ascending.Given as goal

abbrev pub invariant-loop-later : goal.invariant-loop-later
invariant-loop-later l =
    (place later : ℕ) (s t : BoundState) → slice_get l.states place ≡ Some s → slice_get l.states later ≡ Some t → place < later → later < l.later → is_listed_before s.state t.state ≡ true
