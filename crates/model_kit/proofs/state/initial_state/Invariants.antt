use Rattle.std.proofs.Common.{◌≡◌, take}
use Rattle.std.specs.List.{list_any}
use Rattle.model_kit.specs.declared.atom.GroundAtom.{GroundAtom}
use Rattle.model_kit.specs.Same.{same_atom}
use Rattle.model_kit.specs.Judging.{has}
use Rattle.model_kit.proofs.state.initial_state.Given as goal

abbrev pub invariant-loop-place : goal.invariant-loop-place
invariant-loop-place l = (atom : GroundAtom) → has l.state atom ≡ list_any (same_atom atom) (take l.place l.init)
