-- The two tasks of a cube, made without its members: each condition is evaluated by the told and
-- the left numbers of the cube, and an open one by the side that a task takes.
use Rattle.std.specs.Prelude.{ℕ, Bool, true, not, if◌then◌else◌, List, map, filter, Option, None}
use Rattle.std.specs.Prelude.{Some, min, max}
use Rattle.std.specs.FinSet as set
use Rattle.cube_kit.specs.Cubes.{CubeMeaning}
use Rattle.task_kit.specs.declared.task.Task.{Task}
use Rattle.task_kit.specs.Kept.{task_meaning}
use Rattle.task_kit.specs.Tasks.{ActionMeaning, TaskMeaning, set_of}
use Rattle.case_kit.specs.declared.way.Way.{Way}
use Rattle.case_kit.specs.declared.way.Way.TheVariants.{Permissive, Restrictive}
use Rattle.case_kit.specs.declared.cases.When.{When}
use Rattle.case_kit.specs.declared.cases.When.TheVariants.{Always, IfTold, IfLeft}
use Rattle.case_kit.specs.declared.cases.Case.{Case}
use Rattle.case_kit.specs.declared.costs.CaseValue.{CaseValue}
use Rattle.case_kit.specs.declared.costs.CaseValue.TheVariants as values
use Rattle.case_kit.specs.declared.costs.CaseCost.{CaseCost}
use Rattle.case_kit.specs.declared.costs.CaseCost.TheVariants as costs
use Rattle.case_kit.specs.declared.action.CaseAction.{CaseAction}
use Rattle.case_kit.specs.declared.table.CaseTable.{CaseTable}

-- the meaning of a task
abbrev pub meant : Task → TaskMeaning
meant task = task_meaning task.atoms task.start task.goal task.actions

-- the condition isn't ruled out by what the cube has decided
abbrev pub may_hold : CubeMeaning → When → Bool
may_hold cube Always = true
may_hold cube (IfTold place) = not (set.contains cube.left place)
may_hold cube (IfLeft place) = not (set.contains cube.told place)

-- the condition follows from what the cube has decided
abbrev pub must_hold : CubeMeaning → When → Bool
must_hold cube Always = true
must_hold cube (IfTold place) = set.contains cube.told place
must_hold cube (IfLeft place) = set.contains cube.left place

-- the other task
abbrev pub opposite : Way → Way
opposite Permissive = Restrictive
opposite Restrictive = Permissive

-- under this condition, something that helps a list to be valid counts
abbrev pub counts : Way → CubeMeaning → When → Bool
counts Permissive cube when = may_hold cube when
counts Restrictive cube when = must_hold cube when

-- the lesser and the greater of two costs; an absent cost is above every number
abbrev pub least_of : Option ℕ → Option ℕ → Option ℕ
least_of None other = other
least_of (Some one) None = Some one
least_of (Some one) (Some other) = Some (min one other)

abbrev pub greatest_of : Option ℕ → Option ℕ → Option ℕ
greatest_of None other = None
greatest_of (Some one) None = None
greatest_of (Some one) (Some other) = Some (max one other)

abbrev pub best_of : Way → Option ℕ → Option ℕ → Option ℕ
best_of Permissive one other = least_of one other
best_of Restrictive one other = greatest_of one other

-- the value, the cost, and the cost of an action, which is absent if the action doesn't count as
-- known
abbrev pub value_by : Way → CubeMeaning → CaseValue → Option ℕ
value_by way cube (values.One value) = value
value_by way cube (values.Two place with without) =
    if set.contains cube.told place then with else if set.contains cube.left place then without
    else best_of way with without

abbrev pub cost_by : Way → CubeMeaning → CaseCost → Option ℕ
cost_by way cube (costs.One value) = value_by way cube value
cost_by way cube (costs.Two place with without) =
    if set.contains cube.told place then value_by way cube with else if set.contains cube.left place
    then value_by way cube without else best_of way (value_by way cube with)
    (value_by way cube without)

abbrev pub known_cost_by : Way → CubeMeaning → CaseAction → Option ℕ
known_cost_by way cube action =
    if counts way cube action.known then cost_by way cube action.cost else None

-- the atoms of the cases whose conditions pass a test
abbrev pub atoms_where : (When → Bool) → List Case → List ℕ
atoms_where test cases = map (λ case. case.atom) (filter (λ case. test case.when) cases)

-- an action and a task, given the conditions that count for what helps a list to be valid (initial
-- facts and adds), the conditions that count for what hinders it (goals, preconditions and
-- deletes), and the costs of the actions
abbrev pub action_where : (When → Bool) → (When → Bool) → (CaseAction → Option ℕ) → CaseAction
    → ActionMeaning
action_where helps hinders cost action = record {
  pre = set_of (atoms_where hinders action.pre);
  add = set_of (atoms_where helps action.add);
  del = set_of (atoms_where hinders action.del);
  cost = cost action;
}

abbrev pub task_where : (When → Bool) → (When → Bool) → (CaseAction → Option ℕ) → CaseTable
    → TaskMeaning
task_where helps hinders cost table = record {
  atoms = table.atoms;
  start = set_of (atoms_where helps table.start);
  goal = set_of (atoms_where hinders table.goal);
  actions = map (action_where helps hinders cost) table.actions;
}

-- the two tasks
abbrev pub relaxed : Way → CaseTable → CubeMeaning → TaskMeaning
relaxed way table cube =
    task_where (counts way cube) (counts (opposite way) cube) (known_cost_by way cube) table

abbrev pub permissive : CaseTable → CubeMeaning → TaskMeaning
permissive table cube = relaxed Permissive table cube

abbrev pub restrictive : CaseTable → CubeMeaning → TaskMeaning
restrictive table cube = relaxed Restrictive table cube
