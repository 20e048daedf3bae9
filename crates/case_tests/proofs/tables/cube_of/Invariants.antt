use Rattle.cube_kit.specs.Cubes.{IsCube}
use Rattle.case_tests.proofs.tables.cube_of.Given as goal

abbrev pub invariant-loop-place : goal.invariant-loop-place
invariant-loop-place l = IsCube l.d l.cube

abbrev pub invariant-loop-place-2 : goal.invariant-loop-place-2
invariant-loop-place-2 l = IsCube l.d l.cube
