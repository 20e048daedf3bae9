-- What the check of names keeps while it goes over the words of a text: tables of what is declared,
-- and where.
use Rattle.std.specs.Prelude.{ℕ, ◌≡◌, ◌+◌, ◌≤◌, Bool, true, false, List, [], ◌∷◌, codes, take, drop}
use Rattle.std.specs.Prelude.{Option, None, Some, slice_get, slice_index, nat_lt, length, unwrap_or}
use Rattle.std.specs.Prelude.{zero, suc, if◌then◌else◌}
use Rattle.std.specs.List.{list_any, between}
use Rattle.pddl_names.specs.declared.kind.Kind.TheVariants as kind
use Rattle.pddl_names.specs.declared.name_tables.Names.{Names}
use Rattle.pddl_names.specs.declared.name_tables.CurrentAction.{CurrentAction}
use Rattle.pddl_names.specs.declared.name_tables.Tables.{Tables}
use Rattle.pddl_names.specs.declared.role.Role.{Role}
use Rattle.pddl_names.specs.declared.role.Role.TheVariants as role
use Rattle.pddl_names.specs.declared.role.Word.{Word}
use Rattle.pddl_names.specs.Groups.{AreTypePlaces}
use Rattle.pddl_names.specs.Heads.{AreHeads}
use Rattle.pddl_names.specs.Kinds.{ArePlaces}
use Rattle.pddl_names.specs.Listings.{Declared, Signed, terms_behind}
use Rattle.pddl_names.specs.Naming.{is_action, same_call, action_words, head_of, terms_before}
use Rattle.pddl_names.specs.Params.{AreParamPlaces}
use Rattle.pddl_names.specs.TypeTrees.{AreTypes, IsSoundTree}

-- the lists are those of what is declared
pub record AreNames (known : Declared) (names : Names) : Type 0 where
  pub types : names.types.entries ≡ known.types
  pub tree : AreTypes known.types names.tree
  pub objects : names.objects.entries ≡ known.objects
  pub predicates : names.predicates.entries ≡ known.predicates
  pub functions : names.functions.entries ≡ known.functions
  pub object : names.object ≡ codes "object"

-- a first place, a count and a number of parameters for each word
pub record AreSized (words : List Word) (tables : Tables) : Type 0 where
  pub types : length tables.types.items ≡ length words
  pub terms : length tables.heads.terms.items ≡ length words
  pub params : length tables.heads.params.items ≡ length words
  pub values : length tables.values.items ≡ length words
  pub tree : IsSoundTree tables.names.tree

-- the call of a value: its function and the objects
abbrev pub call_at : Word → List Word → Signed
call_at w rest = (w.text, terms_behind rest)

-- a value at a place with the call, or another word
abbrev pub value_at : Role → ℕ → Bool → Option ℕ → Option ℕ
value_at role.Value place same later = if same then Some place else later
value_at r place same later = later

-- the place of the first value with this call, among the words from a place on
abbrev pub first_value : (Signed → Bool) → ℕ → List Word → Option ℕ
first_value such from [] = None
first_value such from (w ∷ rest) =
    value_at w.role from (such (call_at w rest)) (first_value such (from + 1) rest)

-- at the place of each value is that of the first with its call
abbrev pub AreFirstValues : List Word → List ℕ → Type 0
AreFirstValues words firsts =
    (place : ℕ) (w : Word) → slice_get words place ≡ Some w → w.role ≡ role.Value
    → slice_index firsts place ≡ unwrap_or (first_value
    (same_call (call_at w (drop (place + 1) words))) 0 words) 0

-- the tables are those of what is declared and of these words
pub record AreTables (known : Declared) (words : List Word) (tables : Tables) : Type 0 where
  pub names : AreNames known tables.names
  pub types : AreTypePlaces words tables.types.items
  pub heads : AreHeads known words tables.heads
  pub predicates : ArePlaces kind.Predicates words tables.predicates
  pub functions : ArePlaces kind.Functions words tables.functions
  pub actions : ArePlaces kind.Actions words tables.actions
  pub values : AreFirstValues words tables.values.items
  pub sizes : AreSized words tables

-- the action that the word at a place belongs to: where the words after its name begin, and its
-- parameters
pub record IsCurrentAction (words : List Word) (place : ℕ) (action : CurrentAction) : Type 0 where
  pub within : action.start ≤ place
  pub words_are : action_words (take place words) ≡ between action.start place words
  pub none : list_any is_action (between action.start place words) ≡ false
  pub params : AreParamPlaces words action.start action.params

-- the head before a place where terms may begin
abbrev pub head_at : List Word → ℕ → Option Word
head_at words zero = None
head_at words (suc place) = slice_get words place

-- the terms before a place begin there
pub record AreTermsFrom (words : List Word) (place from : ℕ) : Type 0 where
  pub within : from ≤ place
  pub count : terms_before (take place words) + from ≡ place
  pub head : head_of (take place words) ≡ head_at words from

-- a word of this role is the head of an increase
abbrev pub is_increase_role : Role → Bool
is_increase_role role.Increase = true
is_increase_role r = false

-- a place was found, and it is before another
abbrev pub first_before : Option ℕ → ℕ → Bool
first_before None place = false
first_before (Some first) place = nat_lt first place
