-- A chosen set of a cut, and the weight of the cut.
use Rattle.std.specs.Prelude.{ℕ, ◌+◌, ◌≡◌, ◌<◌, List, length}
use Rattle.std.specs.Option.{ForSome}
use Rattle.task_kit.specs.Tasks.{Numbers, TaskMeaning}
use Rattle.relax_cuts.specs.declared.choosing.Choice.{Choice}
use Rattle.relax_cuts.specs.Leaving.{IsCutSet, IsWeight}

-- the set is the set of a cut of the state, and something is left of the cost of each action that
-- the cut counts
pub record IsChoice (task : TaskMeaning) (left : List ℕ) (state : Numbers)
    (choice : Choice) : Type 0 where
  pub width : choice.among.width ≡ task.atoms + 1
  pub cut_set : IsCutSet task state choice.among.members
  pub least : IsWeight task (length task.actions) left choice.among.members choice.least
  pub above : ForSome choice.least (λ weight. 0 < weight)
