use Rattle.std.proofs.Common.{◌≡◌, ◌&&◌, take, map}
use Rattle.std.specs.Prelude.{not}
use Rattle.std.specs.List.{list_any}
use Rattle.model_kit.specs.declared.atom.GroundAtom.{GroundAtom}
use Rattle.model_kit.specs.Same.{same_atom}
use Rattle.model_kit.specs.Runs.{instance}
use Rattle.model_kit.specs.Judging.{has}
use Rattle.model_kit.proofs.state.delete.Given as goal

abbrev pub invariant-loop-place : goal.invariant-loop-place
invariant-loop-place l = (atom : GroundAtom) → has l.state atom ≡ (has l.fn.state atom && not (list_any (same_atom atom) (map (instance l.objects) (take l.place l.atoms))))
