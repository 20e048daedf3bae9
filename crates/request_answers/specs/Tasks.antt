-- The reconciliation task of a pair and a plan in which each difference weighs 1.
use Rattle.std.specs.Prelude.{List, length, replicate}
use Rattle.model_kit.specs.declared.model.Model.{Model}
use Rattle.model_kit.specs.declared.action.GroundAction.{GroundAction}
use Rattle.model_kit.specs.Explanations.{Task}
use Rattle.model_kit.specs.Laws.{task_of}
use Rattle.feature_diff.specs.declared.difference.Difference.{Difference}
use Rattle.feature_diff.specs.Differing.{places_of}

-- the two models, their differences, each of weight 1, and the plan
abbrev pub even_task : Model → Model → List Difference → List GroundAction → Task
even_task planner user differences plan =
    task_of planner.words planner user (places_of differences) (replicate (length differences) 1)
    plan
