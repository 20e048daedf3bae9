-- What the words of a domain or a problem declare. A listed name has the type after the dash of
-- its group.
use Rattle.std.specs.Prelude.{ℕ, ◌+◌, ◌&&◌, ◌||◌, not, Bool, true, false, List, [], ◌∷◌, ◌++◌, map}
use Rattle.std.specs.Prelude.{codes, length, take_while, find, Option, unwrap_or, if◌then◌else◌}
use Rattle.std.specs.Prelude.{zero, suc}
use Rattle.std.specs.List.{list_any, range_with_len}
use Rattle.std.specs.Map.{lookup}
use Rattle.std.specs.Option.{option_and_then}
use Rattle.std.specs.Str.{bytes_eq}
use Rattle.mre_base.specs.declared.text.Text.{Text}
use Rattle.pddl_form.specs.Numbers.{number}
use Rattle.pddl_form.specs.declared.parts.Owner.TheVariants as owner
use Rattle.pddl_names.specs.declared.role.Role.{Role}
use Rattle.pddl_names.specs.declared.role.Role.TheVariants as role
use Rattle.pddl_names.specs.declared.role.Word.{Word}

-- ---- what follows a word

-- a word of a group, where its type is what a further word of the group has: a name, or the dash
abbrev pub type_at : Role → Text → Text → Text
type_at role.ListedType text behind = behind
type_at role.ListedObject text behind = behind
type_at (role.Variable o) text behind = behind
type_at role.Dash text behind = behind
type_at role.ParentType text behind = text
type_at role.ObjectType text behind = text
type_at role.VariableType text behind = text
type_at r text behind = codes "object"

-- the type of a group that goes on here: the word after its dash, or `object` where it has none
abbrev pub type_behind : List Word → Text
type_behind [] = codes "object"
type_behind (w ∷ rest) = type_at w.role w.text (type_behind rest)

abbrev pub is_term : Word → Bool
is_term w = has_term w.role
  where
    has_term : Role → Bool
    has_term role.Term = true
    has_term r = false

-- the terms of a head
abbrev pub terms_behind : List Word → List Text
terms_behind words = map (λ w. w.text) (take_while is_term words)

-- ---- names with their types

-- a name and the name of its type or parent
abbrev pub Typed : Type 0
Typed = Text × Text

-- a name with what its parameters' types are
abbrev pub Signed : Type 0
Signed = Text × List Text

-- the entry of a listed name, before those listed after it
abbrev pub with_type : Role → Typed → List Typed → List Typed
with_type role.ListedType entry more = entry ∷ more
with_type r entry more = more

abbrev pub with_object : Role → Typed → List Typed → List Typed
with_object role.ListedObject entry more = entry ∷ more
with_object r entry more = more

-- the listed types with their parents, and the listed objects with their types, in written order
abbrev pub types_listed : List Word → List Typed
types_listed [] = []
types_listed (w ∷ rest) = with_type w.role (w.text, type_behind rest) (types_listed rest)

abbrev pub objects_listed : List Word → List Typed
objects_listed [] = []
objects_listed (w ∷ rest) = with_object w.role (w.text, type_behind rest) (objects_listed rest)

-- a word after the name of a predicate or a function: a parameter, a word of its group, or the end
abbrev pub with_own : Role → Typed → List Typed → List Typed
with_own (role.Variable o) entry more = entry ∷ more
with_own role.Dash entry more = more
with_own role.VariableType entry more = more
with_own r entry more = []

-- the parameters of a predicate or a function, with their types, by the words after its name
abbrev pub own_params : List Word → List Typed
own_params [] = []
own_params (w ∷ rest) = with_own w.role (w.text, type_behind rest) (own_params rest)

-- a word after the name of an action: a parameter, the next action, or another word
abbrev pub with_param : Role → Typed → List Typed → List Typed
with_param (role.Variable owner.Action) entry more = entry ∷ more
with_param role.Action entry more = []
with_param r entry more = more

-- the parameters of an action with their types, by the words after its name
abbrev pub action_params : List Word → List Typed
action_params [] = []
action_params (w ∷ rest) = with_param w.role (w.text, type_behind rest) (action_params rest)

abbrev pub types_of : List Typed → List Text
types_of params = map (λ (p : Typed). p.1) params

abbrev pub with_predicate : Role → Signed → List Signed → List Signed
with_predicate role.Predicate entry more = entry ∷ more
with_predicate r entry more = more

abbrev pub with_function : Role → Signed → List Signed → List Signed
with_function role.Function entry more = entry ∷ more
with_function r entry more = more

-- the predicates and the functions that are declared, in written order
abbrev pub predicates_in : List Word → List Signed
predicates_in [] = []
predicates_in (w ∷ rest) =
    with_predicate w.role (w.text, types_of (own_params rest)) (predicates_in rest)

abbrev pub functions_in : List Word → List Signed
functions_in [] = []
functions_in (w ∷ rest) =
    with_function w.role (w.text, types_of (own_params rest)) (functions_in rest)

-- ---- values

-- a function with its objects, and the number that they are given
abbrev pub Given : Type 0
Given = Signed × ℕ

-- the word after a head and its terms
abbrev pub past_terms : List Word → Option Word
past_terms words = find (λ w. not (is_term w)) words

-- the number after a head and its terms
abbrev pub number_behind : List Word → ℕ
number_behind words = unwrap_or (option_and_then (λ (w : Word). number w.text) (past_terms words)) 0

abbrev pub with_given : Role → Given → List Given → List Given
with_given role.Value entry more = entry ∷ more
with_given r entry more = more

-- the values that are given, in written order
abbrev pub values_in : List Word → List Given
values_in [] = []
values_in (w ∷ rest) =
    with_given w.role ((w.text, terms_behind rest), number_behind rest) (values_in rest)

-- ---- what is declared

-- what a text and what is before it declare: a name that is declared again keeps its first entry
pub record Declared : Type 0 where
  pub types : List Typed
  pub objects : List Typed
  pub predicates : List Signed
  pub functions : List Signed

-- the first entry of a name
abbrev pub first_of : {X : Type 0} → List (Text × X) → Text → Option X
first_of entries name = lookup (λ key. bytes_eq key name) entries

-- before a domain nothing is declared
abbrev pub nothing : Declared
nothing = record { types = []; objects = []; predicates = []; functions = [] }

-- what the words declare after what was declared before them
abbrev pub declared : Declared → List Word → Declared
declared base words = record {
  types = base.types ++ types_listed words;
  objects = base.objects ++ objects_listed words;
  predicates = base.predicates ++ predicates_in words;
  functions = base.functions ++ functions_in words;
}

-- ---- types

-- the parent of a type: `object` where it is listed with none
abbrev pub parent_of : List Typed → Text → Text
parent_of types type = unwrap_or (first_of types type) (codes "object")

-- the type that many parents up
abbrev pub ancestor : List Typed → ℕ → Text → Text
ancestor types zero type = type
ancestor types (suc n) type = parent_of types (ancestor types n type)

-- a type is declared: it is `object`, it is listed, or it is the parent of one that is
abbrev pub is_type : List Typed → Text → Bool
is_type types type =
    bytes_eq type (codes "object") || list_any (λ (e : Typed). bytes_eq e.0 type
    || bytes_eq e.1 type) types

-- a type is another, or its chain of parents reaches the other; a type that is not declared is
-- below none
abbrev pub is_below : List Typed → Text → Text → Bool
is_below types type above =
    bytes_eq type above
    || (is_type types type && list_any (λ n. bytes_eq (ancestor types n type) above) (range_with_len
    0 (length types + 3)))

-- the chain of parents of a type comes back to it; that of `object`, where it has another parent
abbrev pub comes_back : List Typed → Text → Bool
comes_back types type =
    if bytes_eq type (codes "object") then not (bytes_eq (parent_of types type) type)
    else list_any (λ n. bytes_eq (ancestor types (suc n) type) type)
    (range_with_len 0 (length types + 2))
