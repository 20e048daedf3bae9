use Rattle.cube_kit.proofs.CubeLemmas.{cube_law}
use Rattle.cube_kit.proofs.laws.law_cubes.Goals as goal

pub returns : goal.returns
returns c = cube_law
