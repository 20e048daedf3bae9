-- When a table with names is that of two models.
use Rattle.std.specs.Prelude.{◌≡◌, ◌⊎◌, List, length, map}
use Rattle.model_kit.specs.declared.model.Model.{Model}
use Rattle.model_kit.specs.declared.atom.GroundAtom.{GroundAtom}
use Rattle.model_kit.specs.declared.action.GroundAction.{GroundAction}
use Rattle.model_kit.specs.Printed.{atom_form, action_form}
use Rattle.feature_diff.specs.declared.difference.Difference.{Difference}
use Rattle.named_tables.specs.Numbered.{ListsReachable}
use Rattle.named_tables.specs.Tables.{IsTableOf}
use Rattle.pair_rules.specs.Ruled.{models_of}
use Rattle.ground_core.specs.declared.table.Ground.{Ground}
use Rattle.ground_core.specs.Stops.{ManyAtoms, ManyActions}

-- the table is that of the reachable atoms and actions, each under its printed form, and the
-- differences are those of the list; the type of the names says that the forms ascend
pub record IsGroundOf (planner user : Model) (differences : List Difference)
    (ground : Ground) : Type 0 where
  pub atoms : List GroundAtom
  pub actions : List GroundAction
  pub reachable : ListsReachable (models_of planner user differences) atoms actions
  pub table : IsTableOf (models_of planner user differences) atoms actions ground.table
  pub counted : ground.table.d ≡ length differences
  pub atoms_named : ground.names.atoms.items ≡ map (atom_form planner.words) atoms
  pub actions_named : ground.names.actions.items ≡ map (action_form planner.words) actions

-- more is reachable than a table may list
abbrev pub IsFull : Model → Model → List Difference → Type 0
IsFull planner user differences =
    ManyAtoms planner user differences ⊎ ManyActions planner user differences
