use Rattle.std.proofs.Common.{◌≡◌, take, map}
use Rattle.joint_models.specs.Renaming.{number_at}
use Rattle.joint_models.proofs.numbers.numbers_at.Given as goal

abbrev pub invariant-loop-place : goal.invariant-loop-place
invariant-loop-place l = l.made ≡ map (number_at l.numbers) (take l.place l.places)
