use Rattle.std.proofs.Common.{◌≡◌, take, map}
use Rattle.model_kit.specs.Runs.{instance}
use Rattle.model_kit.proofs.state.instances.Given as goal

abbrev pub invariant-loop-place : goal.invariant-loop-place
invariant-loop-place l = l.made ≡ map (instance l.objects) (take l.place l.atoms)
