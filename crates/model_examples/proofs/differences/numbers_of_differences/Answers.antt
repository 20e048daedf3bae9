use Rattle.std.proofs.Common.{[], ◌∷◌, refl, arith}
use Rattle.model_examples.proofs.Sets.{of_contains, of_within}
use Rattle.model_examples.proofs.differences.numbers_of_differences.Goals as goal

pub returns-clause-three : goal.returns-clause-three
returns-clause-three c = of_within 3 (3 ∷ []) refl

pub returns-clause-none : goal.returns-clause-none
returns-clause-none c = of_within 3 [] refl

pub returns-clause-four : goal.returns-clause-four
returns-clause-four c within = let bounds = within 4 (of_contains (4 ∷ []) 4) in omega (arith, bounds.1)

pub returns-clause-zero : goal.returns-clause-zero
returns-clause-zero c within = let bounds = within 0 (of_contains (0 ∷ []) 0) in omega (arith, bounds.0)
