use Rattle.std.proofs.Common.{◌≡◌, take, map}
use Rattle.joint_models.specs.Listed.{typed_entry}
use Rattle.joint_models.proofs.listed.typed_entries.Given as goal

abbrev pub invariant-loop-place : goal.invariant-loop-place
invariant-loop-place l = l.made ≡ map (typed_entry) (take l.place l.list)
