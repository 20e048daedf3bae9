use Rattle.std.proofs.Common.{◌≡◌, take}
use Rattle.joint_models.specs.Renaming.{joined_by}
use Rattle.joint_models.proofs.words.joined.Given as goal

abbrev pub invariant-loop-place : goal.invariant-loop-place
invariant-loop-place l = l.made ≡ joined_by l.types l.planner.entries (take l.place l.user)
