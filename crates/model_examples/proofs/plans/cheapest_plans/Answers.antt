use Rattle.std.proofs.Common.{ℕ, [], ◌∷◌, refl, get_or}
use Rattle.model_kit.specs.declared.atom.GroundAtom.{GroundAtom}
use Rattle.model_examples.specs.Roads as roads
use Rattle.model_examples.proofs.Runs.{not_valid_by, cheapest_by, not_cheapest_by}
use Rattle.model_examples.proofs.plans.cheapest_plans.Goals as goal

-- 5 from a, 3 from b
abbrev distance : GroundAtom → ℕ
distance atom = get_or (5 ∷ 3 ∷ 0 ∷ []) (get_or atom.objects 0 0) 0

pub returns-clause-cheapest : goal.returns-clause-cheapest
returns-clause-cheapest c = cheapest_by roads.planner 5 distance roads.way refl

pub returns-clause-dearer : goal.returns-clause-dearer
returns-clause-dearer c = not_cheapest_by roads.planner roads.way (roads.go 0 2 ∷ []) refl

pub returns-clause-not_valid : goal.returns-clause-not_valid
returns-clause-not_valid c cheapest = not_valid_by roads.planner (roads.go 0 1 ∷ []) refl refl cheapest.valid

pub returns-clause-tied : goal.returns-clause-tied
returns-clause-tied c = cheapest_by roads.tied 5 distance roads.way refl

pub returns-clause-tied_too : goal.returns-clause-tied_too
returns-clause-tied_too c = cheapest_by roads.tied 5 distance (roads.go 0 2 ∷ []) refl
