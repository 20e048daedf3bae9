-- The form of case tables. Differences count from 1 to d and atoms from 0, and the number of atoms
-- means whatever can never be true.
use Rattle.std.specs.Prelude.{ℕ, ◌+◌, ◌≡◌, ◌≤◌, ◌<◌, Bool, true, ◌&&◌, not, List, length, All}
use Rattle.std.specs.Prelude.{Contains, ◌⊎◌}
use Rattle.cube_kit.specs.Cubes.{is_listed}
use Rattle.case_kit.specs.declared.cases.When.{When}
use Rattle.case_kit.specs.declared.cases.When.TheVariants.{Always, IfTold, IfLeft}
use Rattle.case_kit.specs.declared.cases.Case.{Case}
use Rattle.case_kit.specs.declared.costs.CaseValue.{CaseValue}
use Rattle.case_kit.specs.declared.costs.CaseValue.TheVariants as values
use Rattle.case_kit.specs.declared.costs.CaseCost.{CaseCost}
use Rattle.case_kit.specs.declared.costs.CaseCost.TheVariants as costs
use Rattle.case_kit.specs.declared.action.CaseAction.{CaseAction}
use Rattle.case_kit.specs.Parts.{stands_in_value, stands_in_cost}

-- the difference of a condition, of a value, of a cost, if there is one, is one of 1 to d
abbrev pub is_listed_in : ℕ → When → Bool
is_listed_in d Always = true
is_listed_in d (IfTold place) = is_listed d place
is_listed_in d (IfLeft place) = is_listed d place

abbrev pub is_value_listed : ℕ → CaseValue → Bool
is_value_listed d (values.One value) = true
is_value_listed d (values.Two place told left) = is_listed d place

abbrev pub is_cost_listed : ℕ → CaseCost → Bool
is_cost_listed d (costs.One value) = is_value_listed d value
is_cost_listed d (costs.Two place told left) =
    is_listed d place && (is_value_listed d told && is_value_listed d left)

-- the place of a cost isn't the place of one of its values
abbrev pub is_apart : CaseCost → Bool
is_apart (costs.One value) = true
is_apart (costs.Two place told left) =
    not (stands_in_value told place) && not (stands_in_value left place)

-- the difference of a condition isn't in the cost
abbrev pub is_beside : CaseCost → When → Bool
is_beside cost Always = true
is_beside cost (IfTold place) = not (stands_in_cost cost place)
is_beside cost (IfLeft place) = not (stands_in_cost cost place)

-- the atom is below a bound, and the difference is one of 1 to d
pub record IsCase (d bound : ℕ) (case : Case) : Type 0 where
  pub below : case.atom < bound
  pub listed : is_listed_in d case.when ≡ true

-- an action's atoms and differences are in their ranges, and no difference decides its cost twice
pub record IsCaseAction (d atoms : ℕ) (action : CaseAction) : Type 0 where
  pub pre : All (IsCase d (atoms + 1)) action.pre
  pub add : All (IsCase d atoms) action.add
  pub del : All (IsCase d (atoms + 1)) action.del
  pub cost : is_cost_listed d action.cost ≡ true
  pub known : is_listed_in d action.known ≡ true
  pub apart : is_apart action.cost ≡ true
  pub beside : is_beside action.cost action.known ≡ true

-- the condition is among the cases, in the action, in the table
abbrev pub StandsAmong : List Case → When → Type 0
StandsAmong cases when = (case : Case) × Contains cases case × (case.when ≡ when)

abbrev pub StandsIn : CaseAction → When → Type 0
StandsIn action when =
    StandsAmong action.pre when ⊎ StandsAmong action.add when ⊎ StandsAmong action.del when
    ⊎ (action.known ≡ when)

abbrev pub Stands : List Case → List Case → List CaseAction → When → Type 0
Stands start goal actions when =
    StandsAmong start when ⊎ StandsAmong goal when
    ⊎ ((action : CaseAction) × Contains actions action × StandsIn action when)

-- the facts of each table
pub record IsCaseTable (d atoms : ℕ) (start goal : List Case)
    (actions : List CaseAction) : Type 0 where
  pub few_differences : d ≤ 256
  pub few_atoms : atoms ≤ 4096
  pub few_actions : length actions ≤ 50000
  pub starts : All (IsCase d atoms) start
  pub goals : All (IsCase d (atoms + 1)) goal
  pub each : All (IsCaseAction d atoms) actions
  -- no difference is both in a condition for told and in a condition for left
  pub one_way : (place : ℕ) → Stands start goal actions (IfTold place)
      → Stands start goal actions (IfLeft place) → ⊥
