use Rattle.std.proofs.Common.{◌≡◌, drop}
use Rattle.joint_models.specs.Searching.{have_same_types}
use Rattle.joint_models.proofs.agreeing.have_same_types.Given as goal

abbrev pub invariant-loop-place : goal.invariant-loop-place
invariant-loop-place l = have_same_types l.one l.two (drop l.place l.ones) (drop l.place l.twos) ≡ have_same_types l.one l.two l.ones l.twos
