use Rattle.std.proofs.Common.{[], ◌∷◌, refl}
use Rattle.std.specs.Prelude.{codes}
use Rattle.std.specs.Fmt.{digits}
use Rattle.model_examples.specs.Build.{step}
use Rattle.model_examples.specs.Jump as jump
use Rattle.model_examples.specs.Hidden as hidden
use Rattle.model_examples.specs.Roads as roads
use Rattle.model_examples.proofs.Patched.{explanation_by}
use Rattle.model_examples.proofs.texts.explanations_printed.Goals as goal

pub returns-clause-mce : goal.returns-clause-mce
unfolding digits
returns-clause-mce c = explanation_by (codes "mce") jump.planner jump.user jump.places jump.ones (step 0 ∷ []) (2 ∷ []) refl

pub returns-clause-mme : goal.returns-clause-mme
unfolding digits
returns-clause-mme c = explanation_by (codes "mme") jump.planner jump.user jump.places jump.ones (step 0 ∷ []) (3 ∷ []) refl

pub returns-clause-unknown : goal.returns-clause-unknown
unfolding digits
returns-clause-unknown c = explanation_by (codes "mce") hidden.planner hidden.user hidden.places (1 ∷ []) (step 0 ∷ []) (1 ∷ []) refl

pub returns-clause-two : goal.returns-clause-two
unfolding digits
returns-clause-two c = explanation_by (codes "mce") roads.planner roads.user roads.places (1 ∷ 1 ∷ 1 ∷ []) roads.way (1 ∷ 2 ∷ []) refl
