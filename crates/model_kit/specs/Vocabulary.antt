-- What fits a vocabulary: ground atoms, ground actions, and the terms of action schemas (PDDL with
-- typing).
use Rattle.std.specs.Prelude.{ℕ, Bool, false, IsTrue, List, slice_get}
use Rattle.std.specs.Option.{option_map_or}
use Rattle.std.specs.Cmp.Lexicographic.{pointwise}
use Rattle.model_kit.specs.declared.vocabulary.Vocabulary.{Vocabulary}
use Rattle.model_kit.specs.declared.vocabulary.Signature.{Signature}
use Rattle.model_kit.specs.declared.atom.GroundAtom.{GroundAtom}
use Rattle.model_kit.specs.declared.atom.SchemaAtom.{SchemaAtom}
use Rattle.model_kit.specs.declared.atom.Term.{Term}
use Rattle.model_kit.specs.declared.atom.Term.TheVariants.{Param, Object}
use Rattle.model_kit.specs.declared.action.GroundAction.{GroundAction}
use Rattle.model_kit.specs.Types.{is_of_type}

-- an object is of a type or of one below it
abbrev pub is_object_of : Vocabulary → ℕ → ℕ → Bool
is_object_of words object type =
    option_map_or (λ entry. is_of_type words.types entry.1 type) (slice_get words.objects object)
    false

-- a term in a schema with these parameters is of a type or of one below it
abbrev pub is_term_of : Vocabulary → List ℕ → Term → ℕ → Bool
is_term_of words params (Param i) type =
    option_map_or (λ declared. is_of_type words.types declared type) (slice_get params i) false
is_term_of words params (Object object) type = is_object_of words object type

-- the number is that of a signature, and the arguments are as many as its parameters and of their
-- types
abbrev pub fits_signature : {X : Type 0} → (X → ℕ → Bool) → List Signature → ℕ → List X → Bool
fits_signature is_of signatures n args =
    option_map_or (λ s. pointwise is_of args s.params) (slice_get signatures n) false

-- a predicate with objects that fit its parameters
abbrev pub is_ground_atom : Vocabulary → GroundAtom → Bool
is_ground_atom words atom =
    fits_signature (is_object_of words) words.predicates atom.predicate atom.objects

-- a predicate with terms that fit its parameters, in a schema with these parameters
abbrev pub is_schema_atom : Vocabulary → List ℕ → SchemaAtom → Bool
is_schema_atom words params atom =
    fits_signature (is_term_of words params) words.predicates atom.predicate atom.args

-- an action schema with objects that fit its parameters
abbrev pub is_ground_action : Vocabulary → GroundAction → Bool
is_ground_action words action =
    fits_signature (is_object_of words) words.actions action.schema action.objects

abbrev pub IsGroundAction : Vocabulary → GroundAction → Type 0
IsGroundAction words action = IsTrue (is_ground_action words action)

-- an atom of a schema with some parameters
abbrev pub IsSchemaAtom : Vocabulary → SchemaAtom → Type 0
IsSchemaAtom words atom = (params : List ℕ) × IsTrue (is_schema_atom words params atom)
