-- When a case table is that of two models over lists of atoms and of ground actions: an atom has
-- the number of its place in the list, and each case says which of the two models has its feature.
use Rattle.std.specs.Prelude.{ℕ, ◌≡◌, List, length, map, None, Some, Contains, slice_get}
use Rattle.std.specs.List.{position_or_len}
use Rattle.model_kit.specs.declared.atom.GroundAtom.{GroundAtom}
use Rattle.model_kit.specs.declared.atom.SchemaAtom.{SchemaAtom}
use Rattle.model_kit.specs.declared.action.GroundAction.{GroundAction}
use Rattle.model_kit.specs.declared.model.CostExpr.TheVariants.{Number, Call}
use Rattle.model_kit.specs.Same.{same_atom}
use Rattle.model_kit.specs.Places.{Place, Init, Goal, Knows, Pre, Add, Del, Cost, Value, Content}
use Rattle.model_kit.specs.Places.{Price}
use Rattle.model_kit.specs.Differences.{number_from}
use Rattle.model_kit.specs.Runs.{Has, instance, object_of, worth}
use Rattle.case_kit.specs.declared.cases.When.{When}
use Rattle.case_kit.specs.declared.cases.When.TheVariants.{Always, IfTold, IfLeft}
use Rattle.case_kit.specs.declared.cases.Case.{Case}
use Rattle.case_kit.specs.declared.costs.CaseValue.{CaseValue}
use Rattle.case_kit.specs.declared.costs.CaseValue.TheVariants as values
use Rattle.case_kit.specs.declared.costs.CaseCost.{CaseCost}
use Rattle.case_kit.specs.declared.costs.CaseCost.TheVariants as costs
use Rattle.case_kit.specs.declared.action.CaseAction.{CaseAction}
use Rattle.case_kit.specs.declared.table.CaseTable.{CaseTable}
use Rattle.named_tables.specs.Models.{Models, EitherHas}

-- the number of an atom: its place in the list, or the number of all listed atoms, which means
-- what can never be true
abbrev pub number_in : List GroundAtom → GroundAtom → ℕ
number_in atoms atom = position_or_len (same_atom atom) atoms

-- the difference at the place has the number
abbrev pub IsNumber : Models → Place → ℕ → Type 0
IsNumber models place number = number_from 1 models.places place ≡ Some number

-- the condition says which of the models has the feature
abbrev pub IsWhen : Models → Place → When → Type 0
IsWhen models place Always = Has models.planner place × Has models.user place
IsWhen models place (IfTold number) =
    IsNumber models place number × Has models.planner place × (¬ Has models.user place)
IsWhen models place (IfLeft number) =
    IsNumber models place number × (¬ Has models.planner place) × Has models.user place

-- the case is that of one of these features: its atom, and when it is there
abbrev pub IsCaseOf : Models → (GroundAtom → ℕ) → Place → GroundAtom → Case → Type 0
IsCaseOf models number place atom case = (number atom ≡ case.atom) × IsWhen models place case.when

-- the cases are those of the features that at least one model has
pub record AreCases (models : Models) (number : GroundAtom → ℕ) (F : Type 0) (place : F → Place)
    (atom : F → GroundAtom) (cases : List Case) : Type 0 where
  pub each : (case : Case) → Contains cases case
      → (f : F) × IsCaseOf models number (place f) (atom f) case
  pub all : (f : F) → EitherHas models (place f)
      → (case : Case) × Contains cases case × IsCaseOf models number (place f) (atom f) case

-- the number is the value of a function at objects in both models, or it is one in the planner's
-- and another in the user's
abbrev pub IsWorth : Models → Place → CaseValue → Type 0
IsWorth models place (values.One value) =
    (worth (models.planner place) ≡ value) × (worth (models.user place) ≡ value)
IsWorth models place (values.Two number told left) =
    IsNumber models place number × (worth (models.planner place) ≡ told)
    × (worth (models.user place) ≡ left)

-- the value is that of a cost expression at objects
abbrev pub IsValue : Models → List ℕ → Content → CaseValue → Type 0
IsValue models objects (Price (Number n)) value = value ≡ values.One (Some n)
IsValue models objects (Price (Call function args)) value =
    IsWorth models (Value function (map (object_of objects) args)) value
IsValue models objects _ value = value ≡ values.One None

-- the cost of an action: one expression in both models, or one in the planner's and another in the
-- user's
abbrev pub IsCostOf : Models → GroundAction → CaseCost → Type 0
IsCostOf models action (costs.One value) =
    (models.planner (Cost action.schema) ≡ models.user (Cost action.schema))
    × IsValue models action.objects (models.planner (Cost action.schema)) value
IsCostOf models action (costs.Two number told left) =
    IsNumber models (Cost action.schema) number
    × IsValue models action.objects (models.planner (Cost action.schema)) told
    × IsValue models action.objects (models.user (Cost action.schema)) left

-- the cases of one ground action
pub record IsActionOf (models : Models) (number : GroundAtom → ℕ) (action : GroundAction)
    (cases : CaseAction) : Type 0 where
  pub pre : AreCases models number SchemaAtom (Pre action.schema) (instance action.objects)
      cases.pre
  pub add : AreCases models number SchemaAtom (Add action.schema) (instance action.objects)
      cases.add
  pub del : AreCases models number SchemaAtom (Del action.schema) (instance action.objects)
      cases.del
  pub known : IsWhen models (Knows action.schema) cases.known
  pub cost : IsCostOf models action cases.cost

-- the table is that of the two models over these atoms and actions
pub record IsTableOf (models : Models) (atoms : List GroundAtom) (actions : List GroundAction)
    (table : CaseTable) : Type 0 where
  pub counted : table.atoms ≡ length atoms
  pub start : AreCases models (number_in atoms) GroundAtom Init (λ atom. atom) table.start
  pub goal : AreCases models (number_in atoms) GroundAtom Goal (λ atom. atom) table.goal
  pub one_each : length table.actions ≡ length actions
  pub each : (k : ℕ) (action : GroundAction) (cases : CaseAction)
      → slice_get actions k ≡ Some action → slice_get table.actions k ≡ Some cases
      → IsActionOf models (number_in atoms) action cases
