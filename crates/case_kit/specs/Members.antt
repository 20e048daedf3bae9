-- The members of a case table. When a set of differences is told and the others are left, each
-- condition holds or fails, and each cost has its value; the result is a task on numbers.
use Rattle.std.specs.Prelude.{ℕ, Bool, true, not, if◌then◌else◌, List, map, filter, Option, None}
use Rattle.std.specs.FinSet as set
use Rattle.cube_kit.specs.Cubes.{Told}
use Rattle.task_kit.specs.Tasks.{Numbers, ActionMeaning, TaskMeaning, set_of}
use Rattle.case_kit.specs.declared.cases.When.{When}
use Rattle.case_kit.specs.declared.cases.When.TheVariants.{Always, IfTold, IfLeft}
use Rattle.case_kit.specs.declared.cases.Case.{Case}
use Rattle.case_kit.specs.declared.costs.CaseValue.{CaseValue}
use Rattle.case_kit.specs.declared.costs.CaseValue.TheVariants as values
use Rattle.case_kit.specs.declared.costs.CaseCost.{CaseCost}
use Rattle.case_kit.specs.declared.costs.CaseCost.TheVariants as costs
use Rattle.case_kit.specs.declared.action.CaseAction.{CaseAction}
use Rattle.case_kit.specs.declared.table.CaseTable.{CaseTable}

-- the condition holds after the set is told
abbrev pub holds : Told → When → Bool
holds told Always = true
holds told (IfTold place) = set.contains told place
holds told (IfLeft place) = not (set.contains told place)

-- the value, the cost, and the cost of an action, which is absent if the action isn't known
abbrev pub value_after : Told → CaseValue → Option ℕ
value_after told (values.One value) = value
value_after told (values.Two place with without) = if set.contains told place then with else without

abbrev pub cost_after : Told → CaseCost → Option ℕ
cost_after told (costs.One value) = value_after told value
cost_after told (costs.Two place with without) =
    if set.contains told place then value_after told with else value_after told without

abbrev pub cost_if_known : Told → When → CaseCost → Option ℕ
cost_if_known told known cost = if holds told known then cost_after told cost else None

abbrev pub known_cost_after : Told → CaseAction → Option ℕ
known_cost_after told action = cost_if_known told action.known action.cost

-- the atoms of the cases that hold
abbrev pub atoms_after : Told → List Case → Numbers
atoms_after told cases =
    set_of (map (λ case. case.atom) (filter (λ case. holds told case.when) cases))

-- a ground action, and the whole task
abbrev pub action_after : Told → CaseAction → ActionMeaning
action_after told action = record {
  pre = atoms_after told action.pre;
  add = atoms_after told action.add;
  del = atoms_after told action.del;
  cost = known_cost_after told action;
}

abbrev pub member : CaseTable → Told → TaskMeaning
member table told = record {
  atoms = table.atoms;
  start = atoms_after told table.start;
  goal = atoms_after told table.goal;
  actions = map (action_after told) table.actions;
}
