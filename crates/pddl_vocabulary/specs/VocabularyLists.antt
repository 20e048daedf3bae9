-- The entries of a vocabulary that words say, by the numbers that the names of types have.
use Rattle.std.specs.Prelude.{ℕ, ◌&&◌, not, Bool, false, List, [], ◌∷◌, codes, map, if◌then◌else◌}
use Rattle.std.specs.Str.{bytes_eq}
use Rattle.mre_base.specs.declared.text.Text.{Text}
use Rattle.model_kit.specs.declared.vocabulary.Signature.{Signature}
use Rattle.pddl_names.specs.declared.kind.Kind.{Kind}
use Rattle.pddl_names.specs.declared.kind.Kind.TheVariants as kind
use Rattle.pddl_names.specs.declared.role.Word.{Word}
use Rattle.pddl_names.specs.Kinds.{is_kind}
use Rattle.pddl_names.specs.Listings.{Typed, types_listed, objects_listed, own_params}
use Rattle.pddl_names.specs.Listings.{action_params, parent_of, types_of}

-- the number of the parent of a type
abbrev pub parent_said : (Text → ℕ) → List Word → Text → ℕ
parent_said number words name = number (parent_of (types_listed words) name)

-- a type with the number of its parent
abbrev pub type_said : (Text → ℕ) → List Word → Text → Text × ℕ
type_said number words name = (name, parent_said number words name)

-- a listed object with the number of its type
abbrev pub object_said : (Text → ℕ) → Typed → Text × ℕ
object_said number e = (e.0, number e.1)

-- the listed objects, also those that are listed again
abbrev pub objects_numbered : (Text → ℕ) → List Word → List (Text × ℕ)
objects_numbered number words = map (object_said number) (objects_listed words)

-- the types of the parameters after a name of this kind
abbrev pub params_behind : Kind → List Word → List Text
params_behind kind.Actions behind = types_of (action_params behind)
params_behind k behind = types_of (own_params behind)

-- the name of the sum of all costs is left out of the functions
abbrev pub is_left_out : Kind → Text → Bool
is_left_out kind.Functions name = bytes_eq name (codes "total-cost")
is_left_out k name = false

-- the word is the name of a predicate, a function or an action that is an entry
abbrev pub is_entry_word : Kind → Word → Bool
is_entry_word k w = is_kind k w.role && not (is_left_out k w.text)

-- the entry of a name, by the words after it
abbrev pub entry_said : (Text → ℕ) → Kind → Word → List Word → Signature
entry_said number k w behind =
    record { name = w.text; params = map number (params_behind k behind) }

-- the entries of a kind in written order
abbrev pub entries_said : (Text → ℕ) → Kind → List Word → List Signature
entries_said number k [] = []
entries_said number k (w ∷ rest) =
    if is_entry_word k w then entry_said number k w rest ∷ entries_said number k rest
    else entries_said number k rest
