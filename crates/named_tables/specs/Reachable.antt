-- The reachable atoms and actions of two models, where both models help and nothing is ever made
-- false (delete relaxation, Bonet and Geffner 2001): the least collection that is closed in this
-- way.
use Rattle.model_kit.specs.declared.atom.GroundAtom.{GroundAtom}
use Rattle.model_kit.specs.declared.atom.SchemaAtom.{SchemaAtom}
use Rattle.model_kit.specs.declared.action.GroundAction.{GroundAction}
use Rattle.model_kit.specs.Places.{Init, Pre, Add}
use Rattle.model_kit.specs.Vocabulary.{IsGroundAction}
use Rattle.model_kit.specs.Runs.{Has, instance}
use Rattle.named_tables.specs.Models.{Models, EitherHas, HasSomeCost}

-- an atom that may become true, or an action that may be done
pub data Thing : Type 0 where
  Atom : GroundAtom → Thing
  Action : GroundAction → Thing

-- the initial facts of both models; each action that has a cost after some set of differences, once
-- its preconditions that both models have are there; and what such an action adds in one of them
pub data Reachable (models : Models) : Thing → Type 0 where
  Initial : (atom : GroundAtom) → EitherHas models (Init atom) → Reachable models (Atom atom)
  Enabled : (action : GroundAction) → IsGroundAction models.words action → HasSomeCost models action
      → ((f : SchemaAtom) → Has models.planner (Pre action.schema f)
      → Has models.user (Pre action.schema f)
      → Reachable models (Atom (instance action.objects f)))
      → Reachable models (Action action)
  Added : (action : GroundAction) (f : SchemaAtom) → Reachable models (Action action)
      → EitherHas models (Add action.schema f) → Reachable models (Atom (instance action.objects f))
