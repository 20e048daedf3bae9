use Rattle.std.proofs.Common.{ℕ, List, [], ◌∷◌, refl, cond, get_or}
use Rattle.model_kit.specs.Explanations.{IsMCE, IsMME}
use Rattle.model_kit.specs.declared.action.GroundAction.{GroundAction}
use Rattle.model_examples.specs.Build.{step}
use Rattle.model_examples.specs.Told.{of}
use Rattle.model_examples.proofs.Sets.{is_among, is_listed}
use Rattle.model_examples.proofs.Posed.{posed_by}
use Rattle.model_examples.proofs.Explained.{Reason, Far, Cheaper, complete_by, monotonic_by, mce_by, mme_by, not_first_by}
use Rattle.model_examples.specs.Jump as jump
use Rattle.model_examples.proofs.explanations.three_differences.Goals as goal

-- (r) is no way where it isn't true at first
abbrev reason : List ℕ → Reason
reason xs = cond (is_listed jump.complete xs) (Far 2 (λ atom. get_or (2 ∷ cond (is_among xs 1) 2 0 ∷ 0 ∷ []) atom.predicate 0)) (Cheaper (step 1 ∷ []))

abbrev plan : List GroundAction
plan = step 0 ∷ []

mce : IsMCE (jump.task jump.ones) (of (2 ∷ []))
mce = mce_by jump.words jump.planner jump.user jump.places jump.ones plan reason jump.complete refl refl (2 ∷ []) refl

mme : IsMME (jump.task jump.ones) (of (3 ∷ []))
mme = mme_by jump.words jump.planner jump.user jump.places jump.ones plan reason jump.complete refl jump.monotonic refl refl (3 ∷ []) refl

pub returns-clause-posed : goal.returns-clause-posed
returns-clause-posed c = posed_by jump.words jump.planner jump.user jump.places jump.ones plan refl refl refl

pub returns-clause-complete : goal.returns-clause-complete
returns-clause-complete c = complete_by jump.words jump.planner jump.user jump.places jump.ones plan reason jump.complete refl

pub returns-clause-monotonic : goal.returns-clause-monotonic
returns-clause-monotonic c = monotonic_by jump.words jump.planner jump.user jump.places jump.ones plan reason jump.complete refl jump.monotonic refl

pub returns-clause-mce : goal.returns-clause-mce
returns-clause-mce c = mce

pub returns-clause-mme : goal.returns-clause-mme
returns-clause-mme c = mme

pub returns-clause-heavy : goal.returns-clause-heavy
returns-clause-heavy c = mce_by jump.words jump.planner jump.user jump.places (1 ∷ 5 ∷ 1 ∷ []) plan reason jump.complete refl refl (3 ∷ []) refl

pub returns-clause-complete_alone : goal.returns-clause-complete_alone
returns-clause-complete_alone c = not_first_by (jump.task jump.ones) _ (2 ∷ []) (3 ∷ []) mce refl refl refl

pub returns-clause-monotonic_alone : goal.returns-clause-monotonic_alone
returns-clause-monotonic_alone c = not_first_by (jump.task jump.ones) _ (3 ∷ []) (1 ∷ 3 ∷ []) mme refl refl refl
