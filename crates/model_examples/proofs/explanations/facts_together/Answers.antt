use Rattle.std.proofs.Common.{ℕ, List, [], ◌∷◌, refl, cond, get_or}
use Rattle.model_kit.specs.declared.action.GroundAction.{GroundAction}
use Rattle.model_examples.specs.Build.{step}
use Rattle.model_examples.proofs.Sets.{is_among, is_listed}
use Rattle.model_examples.proofs.Posed.{posed_by}
use Rattle.model_examples.proofs.Explained.{Reason, Far, Cheaper, complete_by, mce_by, mme_by, not_monotonic_by}
use Rattle.model_examples.specs.Together as together
use Rattle.model_examples.proofs.explanations.facts_together.Goals as goal

-- (x) is a way only with (y), and then from both
abbrev reason : List ℕ → Reason
reason xs =
    cond (is_listed together.complete xs) (Far 2 (λ atom. get_or (2 ∷ cond (is_among xs 1) 2 0 ∷ cond (is_among xs 2) 2 0 ∷ 0 ∷ []) atom.predicate 0)) (Cheaper (step 1 ∷ []))

abbrev ones : List ℕ
ones = 1 ∷ 1 ∷ 1 ∷ []

abbrev plan : List GroundAction
plan = step 0 ∷ []

pub returns-clause-posed : goal.returns-clause-posed
returns-clause-posed c = posed_by together.words together.planner together.user together.places ones plan refl refl refl

pub returns-clause-complete : goal.returns-clause-complete
returns-clause-complete c = complete_by together.words together.planner together.user together.places ones plan reason together.complete refl

pub returns-clause-not_monotonic : goal.returns-clause-not_monotonic
returns-clause-not_monotonic c = not_monotonic_by together.words together.planner together.user together.places ones plan reason together.complete refl together.monotonic refl [] refl refl

pub returns-clause-mce : goal.returns-clause-mce
returns-clause-mce c = mce_by together.words together.planner together.user together.places ones plan reason together.complete refl refl [] refl

pub returns-clause-mme : goal.returns-clause-mme
returns-clause-mme c = mme_by together.words together.planner together.user together.places ones plan reason together.complete refl together.monotonic refl refl (3 ∷ []) refl
