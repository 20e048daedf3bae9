use Rattle.std.proofs.Common.{◌-◌, ℕ, ◌≡◌, ◌≤◌, ◌<◌, true, false, Some, length, slice_get}
use Rattle.bound_cert.specs.declared.proof.BoundState.{BoundState}
use Rattle.bound_cert.specs.Formed.{is_listed_before}
use Rattle.bound_cert.proofs.looking.place_for.Given as goal

abbrev pub invariant-loop-low : goal.invariant-loop-low
invariant-loop-low l =
    record {
      ordered : l.low ≤ l.high;
      within : l.high ≤ length l.states;
      before : (place : ℕ) (s : BoundState) → slice_get l.states place ≡ Some s → place < l.low → is_listed_before s.state l.wanted ≡ true;
      rest : (place : ℕ) (s : BoundState) → slice_get l.states place ≡ Some s → l.high ≤ place → is_listed_before s.state l.wanted ≡ false;
    }

abbrev pub decreases-loop-low : goal.decreases-loop-low
decreases-loop-low l = l.high - l.low
