use Rattle.std.proofs.Common.{◌≡◌, take}
use Rattle.joint_models.specs.Renaming.{numbers_between}
use Rattle.joint_models.proofs.numbers.numbers_between.Given as goal

abbrev pub invariant-loop-place : goal.invariant-loop-place
invariant-loop-place l = l.made ≡ numbers_between (take l.place l.from) l.to.entries
