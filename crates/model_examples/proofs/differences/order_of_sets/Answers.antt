use Rattle.std.proofs.Common.{[], ◌∷◌, refl}
use Rattle.model_examples.specs.Jump as jump
use Rattle.model_examples.proofs.Sets.{before_by}
use Rattle.model_examples.proofs.differences.order_of_sets.Goals as goal

pub returns-clause-lighter : goal.returns-clause-lighter
returns-clause-lighter c = before_by (1 ∷ 5 ∷ 1 ∷ []) (1 ∷ 3 ∷ []) (2 ∷ []) refl refl

pub returns-clause-heavier : goal.returns-clause-heavier
returns-clause-heavier c = before_by (1 ∷ 5 ∷ 1 ∷ []) (2 ∷ []) (1 ∷ 3 ∷ []) refl refl

pub returns-clause-fewer : goal.returns-clause-fewer
returns-clause-fewer c = before_by (1 ∷ 2 ∷ 1 ∷ []) (2 ∷ []) (1 ∷ 3 ∷ []) refl refl

pub returns-clause-earlier : goal.returns-clause-earlier
returns-clause-earlier c = before_by jump.ones (1 ∷ 3 ∷ []) (2 ∷ 3 ∷ []) refl refl

pub returns-clause-later : goal.returns-clause-later
returns-clause-later c = before_by jump.ones (2 ∷ 3 ∷ []) (1 ∷ 3 ∷ []) refl refl

pub returns-clause-same : goal.returns-clause-same
returns-clause-same c = before_by jump.ones (2 ∷ []) (2 ∷ []) refl refl
