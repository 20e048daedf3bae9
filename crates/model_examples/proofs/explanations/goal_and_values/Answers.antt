use Rattle.std.proofs.Common.{ℕ, List, [], ◌∷◌, refl, cond, get_or}
use Rattle.model_kit.specs.declared.action.GroundAction.{GroundAction}
use Rattle.model_examples.proofs.Sets.{is_among, is_listed}
use Rattle.model_examples.proofs.Posed.{posed_by}
use Rattle.model_examples.proofs.Explained.{Reason, Far, Cheaper, complete_by, mce_by, mme_by}
use Rattle.model_examples.specs.Roads as roads
use Rattle.model_examples.proofs.explanations.goal_and_values.Goals as goal

-- 5 from a, 3 from b; where nothing is wanted the empty list is cheaper, and else the road from a to c
abbrev reason : List ℕ → Reason
reason xs =
    cond (is_listed roads.complete xs) (Far 5 (λ atom. get_or (5 ∷ 3 ∷ 0 ∷ []) (get_or atom.objects 0 0) 0))
    (Cheaper (cond (is_among xs 1) (roads.go 0 2 ∷ []) []))

abbrev ones : List ℕ
ones = 1 ∷ 1 ∷ 1 ∷ []

abbrev plan : List GroundAction
plan = roads.go 0 1 ∷ roads.go 1 2 ∷ []

pub returns-clause-posed : goal.returns-clause-posed
returns-clause-posed c = posed_by roads.words roads.planner roads.user roads.places ones plan refl refl refl

pub returns-clause-complete : goal.returns-clause-complete
returns-clause-complete c = complete_by roads.words roads.planner roads.user roads.places ones plan reason roads.complete refl

pub returns-clause-mce : goal.returns-clause-mce
returns-clause-mce c = mce_by roads.words roads.planner roads.user roads.places ones plan reason roads.complete refl refl (1 ∷ 2 ∷ []) refl

pub returns-clause-mme : goal.returns-clause-mme
returns-clause-mme c = mme_by roads.words roads.planner roads.user roads.places ones plan reason roads.complete refl roads.complete refl refl (1 ∷ 2 ∷ []) refl
