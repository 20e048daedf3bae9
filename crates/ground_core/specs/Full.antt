-- Whether more is reachable in two models than a table may list, which is always decided: the atoms
-- and ground actions that are reachable in them can be listed.
use Rattle.std.specs.Prelude.{◌≡◌, ◌⊎◌, List}
use Rattle.model_kit.specs.declared.model.Model.{Model}
use Rattle.model_kit.specs.declared.atom.GroundAtom.{GroundAtom}
use Rattle.model_kit.specs.declared.action.GroundAction.{GroundAction}
use Rattle.feature_diff.specs.declared.difference.Difference.{Difference}
use Rattle.feature_diff.specs.Differing.{AreDifferencesOf}
use Rattle.named_tables.specs.Numbered.{ListsReachable}
use Rattle.pair_rules.specs.Ruled.{models_of}
use Rattle.ground_core.specs.Grounds.{IsFull}

-- two models have a list of the atoms and ground actions that are reachable in them
abbrev pub ListedAllLaw : Type 0
ListedAllLaw =
    (planner user : Model) (differences : List Difference)
    → AreDifferencesOf planner user differences → user.words ≡ planner.words →
    (atoms : List GroundAtom) × (actions : List GroundAction)
    × ListsReachable (models_of planner user differences) atoms actions

-- either more is reachable than a table may list, or not
abbrev pub FullLaw : Type 0
FullLaw =
    (planner user : Model) (differences : List Difference)
    → AreDifferencesOf planner user differences → user.words ≡ planner.words →
    IsFull planner user differences ⊎ ¬ IsFull planner user differences
