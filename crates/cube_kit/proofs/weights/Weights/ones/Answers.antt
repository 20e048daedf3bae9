use Rattle.std.proofs.Common.{refl}
use Rattle.cube_kit.proofs.WeightLemmas.{ones_weigh}
use Rattle.cube_kit.proofs.weights.Weights.ones.Goals as goal

pub invariant_of-result : goal.invariant_of-result
invariant_of-result c = ones_weigh 256 refl
