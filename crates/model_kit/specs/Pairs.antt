-- Two models side by side: when they agree, the vocabulary that has the names of both, and each
-- model in its numbers.
use Rattle.std.specs.Prelude.{ℕ, ◌≡◌, ◌↔◌, not, Bool, List, [], ◌++◌, length, map, filter, Contains}
use Rattle.std.specs.Prelude.{Option, slice_get}
use Rattle.std.specs.List.{list_any, position_or_len, range_with_len}
use Rattle.std.specs.Option.{option_map, option_map_or, option_or}
use Rattle.model_kit.specs.declared.vocabulary.Vocabulary.{Vocabulary}
use Rattle.model_kit.specs.declared.vocabulary.Signature.{Signature}
use Rattle.model_kit.specs.declared.atom.GroundAtom.{GroundAtom}
use Rattle.model_kit.specs.declared.atom.SchemaAtom.{SchemaAtom}
use Rattle.model_kit.specs.declared.atom.Term.{Term}
use Rattle.model_kit.specs.declared.atom.Term.TheVariants.{Param, Object}
use Rattle.model_kit.specs.declared.model.Model.{Model}
use Rattle.model_kit.specs.declared.model.Schema.{Schema}
use Rattle.model_kit.specs.declared.model.CostExpr.{CostExpr}
use Rattle.model_kit.specs.declared.model.CostExpr.TheVariants.{Number, Call}
use Rattle.model_kit.specs.Same.{same_numbers}
use Rattle.model_kit.specs.Printed.{name_of, object_name}

abbrev pub type_name : Vocabulary → ℕ → List ℕ
type_name words type = option_map_or (λ entry. entry.0) (slice_get words.types type) []

-- names with the names of their types
abbrev pub typed_names : Vocabulary → List (List ℕ × ℕ) → List (List ℕ × List ℕ)
typed_names words entries = map (λ entry. (entry.0, type_name words entry.1)) entries

-- the same names with the same types
abbrev pub SameTyped : (Vocabulary → List (List ℕ × ℕ)) → Vocabulary → Vocabulary → Type 0
SameTyped part one two =
    (e : List ℕ × List ℕ) → Contains (typed_names one (part one)) e
    ↔ Contains (typed_names two (part two)) e

-- a name that occurs in both has equal parameter types
abbrev pub SameParams : (Vocabulary → List Signature) → Vocabulary → Vocabulary → Type 0
SameParams part one two =
    (s t : Signature) → Contains (part one) s → Contains (part two) t → s.name ≡ t.name
    → map (type_name one) s.params ≡ map (type_name two) t.params

-- the vocabularies agree in types with their parents, in objects with their types, and in the
-- parameters of what occurs in both
pub record Agree (planner user : Vocabulary) : Type 0 where
  pub types : SameTyped (λ w. w.types) planner user
  pub objects : SameTyped (λ w. w.objects) planner user
  pub actions : SameParams (λ w. w.actions) planner user
  pub predicates : SameParams (λ w. w.predicates) planner user
  pub functions : SameParams (λ w. w.functions) planner user

-- the number of what has this name among entries with these names
abbrev pub number_of : List (List ℕ) → List ℕ → ℕ
number_of names name = position_or_len (same_numbers name) names

abbrev pub names : List Signature → List (List ℕ)
names = map (λ s. s.name)

abbrev pub is_named : List Signature → List ℕ → Bool
is_named signatures name = list_any (same_numbers name) (names signatures)

-- one vocabulary's number of a type or of an object, in the other's numbers
abbrev pub type_in : Vocabulary → Vocabulary → ℕ → ℕ
type_in from to type = number_of (map (λ entry. entry.0) to.types) (type_name from type)

abbrev pub object_in : Vocabulary → Vocabulary → ℕ → ℕ
object_in from to object = number_of (map (λ entry. entry.0) to.objects) (object_name from object)

-- likewise the number of a predicate, a function or an action
abbrev pub signature_in : (Vocabulary → List Signature) → Vocabulary → Vocabulary → ℕ → ℕ
signature_in part from to n = number_of (names (part to)) (name_of (part from) n)

-- what the planner has, and after it what only the user has, in the user's order
abbrev pub joined : (Vocabulary → List Signature) → Vocabulary → Vocabulary → List Signature
joined part planner user =
    part planner
    ++ map (λ s. record { name = s.name; params = map (type_in user planner) s.params })
    (filter (λ s. not (is_named (part planner) s.name)) (part user))

-- the joint vocabulary
pub record IsJoint (planner user words : Vocabulary) : Type 0 where
  pub types : words.types ≡ planner.types
  pub objects : words.objects ≡ planner.objects
  pub predicates : words.predicates ≡ joined (λ w. w.predicates) planner user
  pub functions : words.functions ≡ joined (λ w. w.functions) planner user
  pub actions : words.actions ≡ joined (λ w. w.actions) planner user

abbrev pub atom_in : Vocabulary → Vocabulary → GroundAtom → GroundAtom
atom_in from to atom =
    record {
      predicate = signature_in (λ w. w.predicates) from to atom.predicate;
      objects = map
          (object_in from to) atom.objects;
    }

abbrev pub term_in : Vocabulary → Vocabulary → Term → Term
term_in from to (Param i) = Param i
term_in from to (Object object) = Object (object_in from to object)

abbrev pub schema_atom_in : Vocabulary → Vocabulary → SchemaAtom → SchemaAtom
schema_atom_in from to atom =
    record {
      predicate = signature_in (λ w. w.predicates) from to atom.predicate;
      args = map
          (term_in from to) atom.args;
    }

abbrev pub cost_in : Vocabulary → Vocabulary → CostExpr → CostExpr
cost_in from to (Number n) = Number n
cost_in from to (Call function args) =
    Call (signature_in (λ w. w.functions) from to function) (map (term_in from to) args)

abbrev pub schema_in : Vocabulary → Vocabulary → Schema → Schema
schema_in from to schema = record {
  pre = map (schema_atom_in from to) schema.pre;
  add = map (schema_atom_in from to) schema.add;
  del = map (schema_atom_in from to) schema.del;
  cost = cost_in from to schema.cost;
}

abbrev pub value_in : Vocabulary → Vocabulary → ℕ × List ℕ × ℕ → ℕ × List ℕ × ℕ
value_in from to v = (signature_in (λ w. w.functions) from to v.0, map (object_in from to) v.1, v.2)

-- a model's schema of the action with this name, in the numbers of a vocabulary, if the model has
-- the action
abbrev pub schema_named : Vocabulary → Model → List ℕ → Option Schema
schema_named words model name =
    option_map (schema_in model.words words)
    (slice_get model.schemas (number_of (names model.words.actions) name))

-- a model in the numbers of the joint vocabulary: an action that it lacks has the other model's
-- schema and isn't known
pub record IsModelIn (words : Vocabulary) (own other result : Model) : Type 0 where
  pub words_are : result.words ≡ words
  pub init : result.init ≡ map (atom_in own.words words) own.init
  pub goal : result.goal ≡ map (atom_in own.words words) own.goal
  pub schemas : (n : ℕ) → slice_get result.schemas n
      ≡ option_or (schema_named words own (name_of words.actions n))
      (schema_named words other (name_of words.actions n))
  pub values : result.values ≡ map (value_in own.words words) own.values
  pub unknown : result.unknown ≡ filter (λ n. not
      (is_named own.words.actions (name_of words.actions n)))
      (range_with_len 0 (length words.actions))

-- two models that agree and know all their actions, and the same two in the numbers of their joint
-- vocabulary
pub record ArePaired (planner user : Model) (words : Vocabulary)
    (joint_planner joint_user : Model) : Type 0 where
  pub planner_whole : planner.unknown ≡ []
  pub user_whole : user.unknown ≡ []
  pub agree : Agree planner.words user.words
  pub joint : IsJoint planner.words user.words words
  pub planner_in : IsModelIn words planner user joint_planner
  pub user_in : IsModelIn words user planner joint_user
