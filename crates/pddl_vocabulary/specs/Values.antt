-- The vocabulary that the words of a text declare. Numbers are places in the lists, whose entries are
-- in the order in which the text first names them.
use Rattle.std.specs.Prelude.{ℕ, ◌≡◌, not, Bool, true, false, List, [], ◌∷◌, ◌++◌, map, filter}
use Rattle.std.specs.Prelude.{codes, take_while, Option, None, Some, unwrap_or, if◌then◌else◌}
use Rattle.std.specs.List.{list_any, position_from}
use Rattle.std.specs.Option.{option_map}
use Rattle.std.specs.Str.{bytes_eq}
use Rattle.mre_base.specs.declared.text.Text.{Text}
use Rattle.model_kit.specs.declared.atom.GroundAtom.{GroundAtom}
use Rattle.model_kit.specs.declared.atom.SchemaAtom.{SchemaAtom}
use Rattle.model_kit.specs.declared.atom.Term.{Term}
use Rattle.model_kit.specs.declared.atom.Term.TheVariants.{Param, Object}
use Rattle.model_kit.specs.declared.model.CostExpr.{CostExpr}
use Rattle.model_kit.specs.declared.model.CostExpr.TheVariants.{Number, Call}
use Rattle.model_kit.specs.declared.model.Model.{Model}
use Rattle.model_kit.specs.declared.model.Schema.{Schema}
use Rattle.model_kit.specs.declared.vocabulary.Signature.{Signature}
use Rattle.model_kit.specs.declared.vocabulary.Vocabulary.{Vocabulary}
use Rattle.model_kit.specs.Same.{same_atom, same_schema_atom}
use Rattle.pddl_form.specs.Numbers.{number}
use Rattle.pddl_names.specs.declared.role.Role.{Role}
use Rattle.pddl_names.specs.declared.role.Role.TheVariants as role
use Rattle.pddl_names.specs.declared.role.Says.{Says}
use Rattle.pddl_names.specs.declared.role.Says.TheVariants as says
use Rattle.pddl_names.specs.declared.role.Word.{Word}
use Rattle.pddl_names.specs.Listings.{Typed, Signed, Given, types_listed, objects_listed}
use Rattle.pddl_names.specs.Listings.{predicates_in, functions_in, parent_of, terms_behind}
use Rattle.pddl_names.specs.Listings.{values_in, action_params, types_of}
use Rattle.pddl_names.specs.Naming.{is_action, is_variable, same_call}
use Rattle.pddl_names.specs.Numbers.{entry_name, word_name}

-- ---- lists without repeats, and numbers

-- the entries that are the same as none before them
abbrev pub firsts : {X : Type 0} → (X → X → Bool) → List X → List X
firsts same [] = []
firsts same (x ∷ xs) = x ∷ filter (λ y. not (same x y)) (firsts same xs)

-- the place of a name that is among the names
abbrev pub place_in : List Text → Text → ℕ
place_in names name = unwrap_or (position_from (λ other. bytes_eq other name) 0 names) 0

-- ---- types and objects

abbrev pub with_type_name : Role → Text → List Text → List Text
with_type_name role.ListedType text more = text ∷ more
with_type_name role.ParentType text more = text ∷ more
with_type_name r text more = more

-- each name of a type, listed or as a parent
abbrev pub type_words : List Word → List Text
type_words [] = []
type_words (w ∷ rest) = with_type_name w.role w.text (type_words rest)

-- the types of a domain: `object`, and those that it names
abbrev pub type_names : List Word → List Text
type_names words = firsts bytes_eq (codes "object" ∷ type_words words)

-- the types with their parents
abbrev pub types_said : List Word → List (Text × ℕ)
types_said words =
    map (λ name. (name, place_in (type_names words) (parent_of (types_listed words) name)))
    (type_names words)

abbrev pub same_entry : Typed → Typed → Bool
same_entry e f = bytes_eq e.0 f.0

-- the listed objects with their types, by the names of all types
abbrev pub objects_said : List Text → List Word → List (Text × ℕ)
objects_said types words =
    map (λ (e : Typed). (e.0, place_in types e.1)) (firsts same_entry (objects_listed words))

-- ---- predicates, functions and actions

abbrev pub signature_said : List Text → Signed → Signature
signature_said types s = record { name = s.0; params = map (place_in types) s.1 }

-- the function that means the sum of all costs
abbrev pub is_total : Signed → Bool
is_total s = bytes_eq s.0 (codes "total-cost")

-- the name of an action, and the words after it
abbrev pub ActionWords : Type 0
ActionWords = Text × List Word

abbrev pub with_action : Role → ActionWords → List ActionWords → List ActionWords
with_action role.Action entry more = entry ∷ more
with_action r entry more = more

abbrev pub actions_in : List Word → List ActionWords
actions_in [] = []
actions_in (w ∷ rest) = with_action w.role (w.text, rest) (actions_in rest)

abbrev pub action_said : List Text → ActionWords → Signature
action_said types a = signature_said types (a.0, types_of (action_params a.1))

-- ---- names

abbrev pub names_of : List (Text × ℕ) → List Text
names_of entries = map entry_name entries

abbrev pub words_named : List Signature → List Text
words_named signatures = map word_name signatures

-- ---- a vocabulary

-- the words of a domain say the vocabulary
pub record SaysWords (said : List Word) (words : Vocabulary) : Type 0 where
  pub types : words.types ≡ types_said said
  pub objects : words.objects ≡ objects_said (type_names said) said
  pub predicates : words.predicates ≡ map (signature_said (type_names said)) (predicates_in said)
  pub functions : words.functions ≡ map (signature_said (type_names said)) (filter
      (λ s. not (is_total s)) (functions_in said))
  pub actions : words.actions ≡ map (action_said (type_names said)) (actions_in said)

-- after the vocabulary of a domain, the words of a problem declare the vocabulary of both: its objects
-- follow the domain's
pub record SaysMore (domain : Vocabulary) (said : List Word) (words : Vocabulary) : Type 0 where
  pub types : words.types ≡ domain.types
  pub objects : words.objects ≡ domain.objects
      ++ filter (λ e. not (list_any (λ f. bytes_eq (entry_name f) (entry_name e)) domain.objects))
      (objects_said (names_of domain.types) said)
  pub predicates : words.predicates ≡ domain.predicates
  pub functions : words.functions ≡ domain.functions
  pub actions : words.actions ≡ domain.actions
