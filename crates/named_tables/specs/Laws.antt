-- The laws of tables of two models.
use Rattle.std.specs.Prelude.{◌≡◌, ◌↔◌, true, List}
use Rattle.cube_kit.specs.Cubes.{Told}
use Rattle.model_kit.specs.declared.atom.GroundAtom.{GroundAtom}
use Rattle.model_kit.specs.declared.action.GroundAction.{GroundAction}
use Rattle.model_kit.specs.Places.{Knows}
use Rattle.case_kit.specs.declared.cases.When.{When}
use Rattle.case_kit.specs.declared.costs.CaseCost.{CaseCost}
use Rattle.case_kit.specs.declared.table.CaseTable.{CaseTable}
use Rattle.case_kit.specs.Parts.{has_cost}
use Rattle.case_kit.specs.Sound.{is_apart, is_beside}
use Rattle.reach_kit.specs.declared.world.World.{World}
use Rattle.reach_kit.specs.declared.world.Limits.{Limits}
use Rattle.reach_kit.specs.declared.world.Reached.{Reached}
use Rattle.reach_kit.specs.Relaxed as rules
use Rattle.named_tables.specs.Models.{Models, HasSomeCost}
use Rattle.named_tables.specs.Numbered.{ListsReachable, RunsAsNamed}
use Rattle.named_tables.specs.Tables.{IsWhen, IsCostOf, IsTableOf}
use Rattle.named_tables.specs.Worlds.{AreRulesOf}

-- what is reachable by the rules of two models is reachable in them
abbrev pub ReachLaw : Type 0
ReachLaw =
    (models : Models) (world : World) (limits : Limits) (reached : Reached)
    → AreRulesOf models world → rules.ListsReachable world limits reached →
    ListsReachable models reached.atoms reached.actions

-- whatever is told, lists of numbers run in the table of the reachable atoms and actions as lists
-- of ground actions run in the models
abbrev pub RunLaw : Type 0
RunLaw =
    (models : Models) (atoms : List GroundAtom) (actions : List GroundAction) (table : CaseTable)
    → ListsReachable models atoms actions → IsTableOf models atoms actions table →
    (told : Told) → RunsAsNamed models actions table told

-- an action has a cost after some set of differences exactly where there is a number in its cost
abbrev pub PricedLaw : Type 0
PricedLaw =
    (models : Models) (action : GroundAction) (known : When) (cost : CaseCost)
    → IsWhen models (Knows action.schema) known → IsCostOf models action cost
    → is_apart cost ≡ true → is_beside cost known ≡ true →
    (has_cost cost ≡ true) ↔ HasSomeCost models action
