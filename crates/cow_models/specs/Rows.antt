-- A task whose ground actions are kept in rows of sixteen, in the order of their numbers. The last
-- row has the actions that are left.
use Rattle.std.specs.Prelude.{ℕ, ◌+◌, ◌-◌, ◌*◌, ◌/◌, ◌%◌, ◌≡◌, List, [], length, map, min, Some}
use Rattle.std.specs.Prelude.{slice_get, unwrap_or}
use Rattle.std.specs.List.{range_with_len}
use Rattle.std.specs.Option.{option_map}
use Rattle.mre_base.specs.Sets.{BitSet}
use Rattle.task_kit.specs.declared.action.TaskAction.{TaskAction}
use Rattle.task_kit.specs.Kept.{action_meaning}
use Rattle.task_kit.specs.Tasks.{ActionMeaning, TaskMeaning, IsAction, IsTask}
use Rattle.task_kit.specs.Tasks.{action_at, no_action}

-- how many rows this number of actions takes
abbrev pub row_count : ℕ → ℕ
row_count actions = (actions + 15) / 16

-- how many of the actions are in the row with a number
abbrev pub row_length : ℕ → ℕ → ℕ
row_length actions row = min 16 (actions - 16 * row)

-- the row with a number; there are no actions past the last row
abbrev pub row_at : List (List TaskAction) → ℕ → List TaskAction
row_at rows row = unwrap_or (slice_get rows row) []

-- what the action with a number means
abbrev pub kept_action : List (List TaskAction) → ℕ → ActionMeaning
kept_action rows i =
    unwrap_or (option_map action_meaning (slice_get (row_at rows (i / 16)) (i % 16))) no_action

-- what a task in rows means
abbrev pub kept_task : ℕ → BitSet → BitSet → ℕ → List (List TaskAction) → TaskMeaning
kept_task atoms start goal count rows =
    record {
      atoms = atoms;
      start = start.members;
      goal = goal.members;
      actions = map (kept_action rows) (range_with_len 0 count);
    }

-- the facts of each task in rows: its sets are as wide as those of a task, its numbers are in
-- their ranges, and its rows are full up to the last
pub record IsKept (atoms : ℕ) (start goal : BitSet) (count : ℕ)
    (rows : List (List TaskAction)) : Type 0 where
  pub start_width : start.width ≡ atoms + 1
  pub goal_width : goal.width ≡ atoms + 1
  pub in_range : IsTask (kept_task atoms start goal count rows)
  pub number : length rows ≡ row_count count
  pub lengths : (row : ℕ) → length (row_at rows row) ≡ row_length count row

-- the action is the one of a task with this number
pub record IsAt (task : TaskMeaning) (number : ℕ) (action : TaskAction) : Type 0 where
  pub is : action_meaning action ≡ action_at task number
  pub in_range : IsAction task.atoms (action_meaning action)

-- the actions are those of a task from this number on
abbrev pub AreFrom : TaskMeaning → ℕ → List TaskAction → Type 0
AreFrom task first actions =
    (k : ℕ) (action : TaskAction) → slice_get actions k ≡ Some action → IsAt task (first + k) action

-- the actions are the row of a task with this number
pub record IsRow (task : TaskMeaning) (row : ℕ) (actions : List TaskAction) : Type 0 where
  pub length_is : length actions ≡ row_length (length task.actions) row
  pub each : AreFrom task (16 * row) actions

-- each of the rows is the row of a task with its number
abbrev pub AreRows : TaskMeaning → List (List TaskAction) → Type 0
AreRows task rows =
    (row : ℕ) (actions : List TaskAction) → slice_get rows row ≡ Some actions
    → IsRow task row actions
