-- The printed forms of atoms and terms, by which places of one kind are ordered.
use Rattle.std.specs.Prelude.{ℕ, ◌+◌, map, List, [], ◌++◌, codes, decimal, flat_map, slice_get}
use Rattle.std.specs.Option.{option_map_or}
use Rattle.model_kit.specs.declared.vocabulary.Vocabulary.{Vocabulary}
use Rattle.model_kit.specs.declared.vocabulary.Signature.{Signature}
use Rattle.model_kit.specs.declared.atom.SchemaAtom.{SchemaAtom}
use Rattle.model_kit.specs.declared.atom.GroundAtom.{GroundAtom}
use Rattle.model_kit.specs.declared.atom.Term.{Term}
use Rattle.model_kit.specs.declared.atom.Term.TheVariants.{Param, Object}
use Rattle.model_kit.specs.declared.action.GroundAction.{GroundAction}
use Rattle.model_kit.specs.Places.{Place, Init, Goal, Knows, Pre, Add, Del, Cost, Value}

abbrev pub name_of : List Signature → ℕ → List ℕ
name_of signatures n = option_map_or (λ s. s.name) (slice_get signatures n) []

abbrev pub object_name : Vocabulary → ℕ → List ℕ
object_name words object = option_map_or (λ entry. entry.0) (slice_get words.objects object) []

-- a parameter is printed by its position from 1, as `?1`
abbrev pub term_form : Vocabulary → Term → List ℕ
term_form words (Param i) = codes "?" ++ decimal (i + 1)
term_form words (Object object) = object_name words object

-- each argument after a blank
abbrev pub args_form : List (List ℕ) → List ℕ
args_form args = flat_map (λ arg. codes " " ++ arg) args

-- `(NAME A1 A2)`
abbrev pub form : List ℕ → List (List ℕ) → List ℕ
form name args = codes "(" ++ name ++ args_form args ++ codes ")"

abbrev pub atom_form : Vocabulary → GroundAtom → List ℕ
atom_form words atom =
    form (name_of words.predicates atom.predicate) (map (object_name words) atom.objects)

abbrev pub schema_atom_form : Vocabulary → SchemaAtom → List ℕ
schema_atom_form words atom =
    form (name_of words.predicates atom.predicate) (map (term_form words) atom.args)

abbrev pub action_form : Vocabulary → GroundAction → List ℕ
action_form words action =
    form (name_of words.actions action.schema) (map (object_name words) action.objects)

-- the printed form by which a place is ordered among those of its kind; there is one knowledge and
-- one cost of an action
abbrev pub printed : Vocabulary → Place → List ℕ
printed words (Init atom) = atom_form words atom
printed words (Goal atom) = atom_form words atom
printed words (Knows action) = []
printed words (Pre action atom) = schema_atom_form words atom
printed words (Add action atom) = schema_atom_form words atom
printed words (Del action atom) = schema_atom_form words atom
printed words (Cost action) = []
printed words (Value f xs) = form (name_of words.functions f) (map (object_name words) xs)
