-- The size of what the computation of the values of atoms keeps.
use Rattle.std.specs.Prelude.{◌+◌, ◌≡◌, length}
use Rattle.task_kit.specs.Tasks.{TaskMeaning}
use Rattle.relax_cuts.specs.declared.values.Settling.{Settling}
use Rattle.relax_cuts.specs.BlockedSize.{HasRoom}

-- there is room for each atom and action of the task
pub record IsSettling (task : TaskMeaning) (settling : Settling) : Type 0 where
  pub width : settling.settled.width ≡ task.atoms + 1
  pub room : HasRoom (task.atoms + 1) (length task.actions) settling.blocked
