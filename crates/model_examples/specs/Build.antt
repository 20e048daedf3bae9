-- Definitions from which small models are built.
use Rattle.std.specs.Prelude.{ℕ, List, [], ◌∷◌, map, codes}
use Rattle.model_kit.specs.declared.vocabulary.Signature.{Signature}
use Rattle.model_kit.specs.declared.model.Schema.{Schema}
use Rattle.model_kit.specs.declared.model.CostExpr.TheVariants.{Number}
use Rattle.model_kit.specs.declared.atom.SchemaAtom.{SchemaAtom}
use Rattle.model_kit.specs.declared.atom.GroundAtom.{GroundAtom}
use Rattle.model_kit.specs.declared.atom.Term.{Term}
use Rattle.model_kit.specs.declared.action.GroundAction.{GroundAction}

-- a predicate, function or action with parameters of these types
abbrev pub word : List ℕ → List ℕ → Signature
word name params = record { name = name; params = params }

-- only the type `object`
abbrev pub one_type : List (List ℕ × ℕ)
one_type = (codes "object", 0) ∷ []

-- a predicate with objects, and with terms
abbrev pub fact : ℕ → List ℕ → GroundAtom
fact predicate objects = record { predicate = predicate; objects = objects }

abbrev pub atom : ℕ → List Term → SchemaAtom
atom predicate args = record { predicate = predicate; args = args }

-- an action with objects
abbrev pub act : ℕ → List ℕ → GroundAction
act schema objects = record { schema = schema; objects = objects }

-- atoms without arguments
abbrev pub facts : List ℕ → List GroundAtom
facts predicates = map (λ p. fact p []) predicates

abbrev pub bare : ℕ → SchemaAtom
bare predicate = atom predicate []

-- an action without objects
abbrev pub step : ℕ → GroundAction
step schema = act schema []

-- the schema that needs some atoms, adds one and costs a number
abbrev pub plain : List ℕ → ℕ → ℕ → Schema
plain pre add price =
    record { pre = map bare pre; add = bare add ∷ []; del = []; cost = Number price }
