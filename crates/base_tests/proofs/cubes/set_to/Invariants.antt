use Rattle.cube_kit.specs.Cubes.{IsWithin}
use Rattle.base_tests.proofs.cubes.set_to.Given as goal

abbrev pub invariant-loop-number : goal.invariant-loop-number
invariant-loop-number l = IsWithin l.d l.set
