use Rattle.cube_kit.proofs.ApartLemmas.{AreOthers}
use Rattle.cube_kit.proofs.cube.others.Given as goal

abbrev pub invariant-loop-place : goal.invariant-loop-place
invariant-loop-place l = AreOthers l.than l.others l.place
