use Rattle.std.proofs.Common.{[], ◌∷◌, refl}
use Rattle.model_examples.specs.Roads as roads
use Rattle.model_examples.proofs.Runs.{valid_by, not_valid_by}
use Rattle.model_examples.proofs.plans.valid_plans.Goals as goal

pub returns-clause-two_steps : goal.returns-clause-two_steps
returns-clause-two_steps c = valid_by roads.planner roads.way refl

pub returns-clause-wrong_order : goal.returns-clause-wrong_order
returns-clause-wrong_order c = not_valid_by roads.planner (roads.go 1 2 ∷ roads.go 0 1 ∷ []) refl refl

pub returns-clause-no_goal : goal.returns-clause-no_goal
returns-clause-no_goal c = not_valid_by roads.planner (roads.go 0 1 ∷ []) refl refl

pub returns-clause-nothing_wanted : goal.returns-clause-nothing_wanted
returns-clause-nothing_wanted c = valid_by roads.user [] refl

pub returns-clause-sum : goal.returns-clause-sum
returns-clause-sum c = refl
