-- The cases of ground actions.
use Rattle.std.specs.Prelude.{ℕ, ◌≡◌, List, Some, length, slice_get}
use Rattle.model_kit.specs.declared.atom.GroundAtom.{GroundAtom}
use Rattle.model_kit.specs.declared.action.GroundAction.{GroundAction}
use Rattle.model_kit.specs.Places.{Knows}
use Rattle.model_kit.specs.Vocabulary.{IsGroundAction}
use Rattle.case_kit.specs.declared.action.CaseAction.{CaseAction}
use Rattle.named_tables.specs.Models.{Models, EitherHas}
use Rattle.named_tables.specs.Tables.{IsActionOf}

-- the action is one of the vocabulary, and one of the models knows its schema
pub record MayBeDone (models : Models) (action : GroundAction) : Type 0 where
  pub fits : IsGroundAction models.words action
  pub known : EitherHas models (Knows action.schema)

-- the cases are those of the first actions, one for each
pub record AreActionsUpTo (models : Models) (number : GroundAtom → ℕ) (actions : List GroundAction)
    (count : ℕ) (made : List CaseAction) : Type 0 where
  pub counted : length made ≡ count
  pub each : (k : ℕ) (action : GroundAction) (cases : CaseAction)
      → slice_get actions k ≡ Some action → slice_get made k ≡ Some cases
      → IsActionOf models number action cases

-- the cases are those of the actions
abbrev pub AreActionsOf : Models → (GroundAtom → ℕ) → List GroundAction → List CaseAction → Type 0
AreActionsOf models number actions made = AreActionsUpTo models number actions (length actions) made
