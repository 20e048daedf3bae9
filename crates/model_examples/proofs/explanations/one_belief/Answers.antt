use Rattle.std.proofs.Common.{ℕ, List, [], ◌∷◌, refl, cond, get_or}
use Rattle.model_kit.specs.declared.action.GroundAction.{GroundAction}
use Rattle.model_examples.specs.Build.{step}
use Rattle.model_examples.proofs.Sets.{is_among}
use Rattle.model_examples.proofs.Posed.{posed_by}
use Rattle.model_examples.proofs.Explained.{Reason, Far, Cheaper, mce_by, not_complete_by}
use Rattle.model_examples.specs.Belief as belief
use Rattle.model_examples.specs.Belief.{words}
use Rattle.model_examples.proofs.explanations.one_belief.Goals as goal

-- jump is the cheaper way where it can be taken
abbrev reason : List ℕ → Reason
reason xs = cond (is_among xs 1) (Far 2 (λ atom. get_or (2 ∷ 0 ∷ 0 ∷ []) atom.predicate 0)) (Cheaper (step 1 ∷ []))

abbrev lists : List (List ℕ)
lists = (1 ∷ []) ∷ []

abbrev plan : List GroundAction
plan = step 0 ∷ []

pub returns-clause-posed : goal.returns-clause-posed
returns-clause-posed c = posed_by words belief.planner belief.user belief.places (1 ∷ []) plan refl refl refl

pub returns-clause-nothing_told : goal.returns-clause-nothing_told
returns-clause-nothing_told c = not_complete_by words belief.planner belief.user belief.places (1 ∷ []) plan reason lists refl [] refl refl

pub returns-clause-mce : goal.returns-clause-mce
returns-clause-mce c = mce_by words belief.planner belief.user belief.places (1 ∷ []) plan reason lists refl refl (1 ∷ []) refl
