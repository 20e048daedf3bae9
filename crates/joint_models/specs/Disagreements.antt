-- What two vocabularies have under a name, where they disagree, and which disagreement is the
-- first.
use Rattle.std.specs.Prelude.{ℕ, ◌≡◌, ◌≢◌, ◌<◌, Bool, true, false, List, [], ◌++◌, map, Option}
use Rattle.std.specs.Prelude.{None, Some, Result, Ok, Err, codes, if◌then◌else◌}
use Rattle.std.specs.List.{join_with_byte}
use Rattle.std.specs.Option.{option_map}
use Rattle.model_kit.specs.declared.vocabulary.Vocabulary.{Vocabulary}
use Rattle.model_kit.specs.declared.vocabulary.Signature.{Signature}
use Rattle.model_kit.specs.Pairs.{type_name}
use Rattle.model_kit.specs.Differences.{IsPrintedBefore}
use Rattle.joint_models.specs.declared.group.Group.{Group}
use Rattle.joint_models.specs.declared.group.Group.TheVariants.{Types, Objects, Actions, Predicates}
use Rattle.joint_models.specs.declared.group.Group.TheVariants.{Functions}
use Rattle.joint_models.specs.declared.stop.PairFault.{PairFault}
use Rattle.joint_models.specs.declared.stop.PairStop.{PairStop}
use Rattle.joint_models.specs.declared.stop.PairStop.TheVariants.{Differs, NoMemory}
use Rattle.joint_models.specs.Listed.{typed_entry, entry_named}

-- the entries of a group, each with its name and the numbers of types: a parent, an object's type,
-- or those of the parameters
abbrev pub entries_in : Group → Vocabulary → List Signature
entries_in Types words = map typed_entry words.types
entries_in Objects words = map typed_entry words.objects
entries_in Actions words = words.actions
entries_in Predicates words = words.predicates
entries_in Functions words = words.functions

-- the names of the types that a vocabulary has under a name, if it has the name
abbrev pub has : Group → Vocabulary → List ℕ → Option (List (List ℕ))
has group words name =
    option_map (λ s. map (type_name words) s.params) (entry_named (entries_in group words) name)

-- models that agree have the same types and the same objects
abbrev pub is_shared : Group → Bool
is_shared Types = true
is_shared Objects = true
is_shared Actions = false
is_shared Predicates = false
is_shared Functions = false

-- what two vocabularies have under a name is the same; in a group where a name may be in only one
-- of them, this is asked of the names that both have
abbrev pub AreAlike : Bool → Option (List (List ℕ)) → Option (List (List ℕ)) → Type 0
AreAlike true one two = one ≡ two
AreAlike false (Some one) (Some two) = one ≡ two
AreAlike false (Some one) None = Unit {0}
AreAlike false None two = Unit {0}

-- two vocabularies disagree about a name of a group
abbrev pub Disagree : Group → Vocabulary → Vocabulary → List ℕ → Type 0
Disagree group planner user name =
    ¬ AreAlike (is_shared group) (has group planner name) (has group user name)

-- two vocabularies disagree about no name of a group
abbrev pub AgreeIn : Group → Vocabulary → Vocabulary → Type 0
AgreeIn group planner user = (name : List ℕ) → ¬ Disagree group planner user name

-- the place of a group in the order of disagreements
abbrev pub place_of : Group → ℕ
place_of Types = 0
place_of Objects = 1
place_of Actions = 2
place_of Predicates = 3
place_of Functions = 4

-- the word before a name of the group
abbrev pub word_of : Group → List ℕ
word_of Types = codes "type "
word_of Objects = codes "object "
word_of Actions = codes "action "
word_of Predicates = codes "predicate "
word_of Functions = codes "function "

-- what is printed between the name and the types
abbrev pub opening : Group → List ℕ
opening group = (if is_shared group then codes " - " else codes " (")

-- what is printed after the types
abbrev pub closing : Group → List ℕ
closing group = (if is_shared group then [] else codes ")")

-- `type NAME - PARENT`, `object NAME - TYPE`, `action NAME (T1 T2)` and so on, with one blank
-- between types; `none` where nothing has the name
abbrev pub spelled : Group → List ℕ → Option (List (List ℕ)) → List ℕ
spelled group name None = codes "none"
spelled group name (Some types) =
    word_of group ++ name ++ opening group ++ join_with_byte 32 types ++ closing group

-- of the names with a property this comes first in ASCII order
pub record IsEarliest (Property : List ℕ → Type 0) (name : List ℕ) : Type 0 where
  pub here : Property name
  pub first : (other : List ℕ) → Property other → other ≢ name → IsPrintedBefore name other

-- the first disagreement of a group, as both have it
pub record IsFirstIn (group : Group) (planner user : Vocabulary) (fault : PairFault) : Type 0 where
  pub name : List ℕ
  pub earliest : IsEarliest (Disagree group planner user) name
  pub planner_is : fault.planner ≡ spelled group name (has group planner name)
  pub user_is : fault.user ≡ spelled group name (has group user name)

-- the first disagreement of two vocabularies: it is the first of its group, and no group before has
-- one
pub record IsFirstDisagreement (planner user : Vocabulary) (fault : PairFault) : Type 0 where
  pub group : Group
  pub first : IsFirstIn group planner user fault
  pub none_before : (before : Group) → place_of before < place_of group
      → AgreeIn before planner user

-- what holds of the disagreement that is told
abbrev pub IfDiffers : {X : Type 0} → Result X PairStop → (PairFault → Type 0) → Type 0
IfDiffers (Ok x) Holds = Unit {0}
IfDiffers (Err (Differs fault)) Holds = Holds fault
IfDiffers (Err NoMemory) Holds = Unit {0}
