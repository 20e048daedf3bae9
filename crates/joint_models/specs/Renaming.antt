-- What is given in the numbers of one vocabulary, in those of another, by lists of the new numbers.
use Rattle.std.specs.Prelude.{ℕ, ◌≡◌, ◌||◌, not, List, ◌++◌, length, map, filter, All, IsTrue}
use Rattle.std.specs.Prelude.{Option, Some, slice_get, slice_index}
use Rattle.std.specs.List.{range_with_len}
use Rattle.std.specs.Option.{option_map, option_or}
use Rattle.model_kit.specs.declared.vocabulary.Vocabulary.{Vocabulary}
use Rattle.model_kit.specs.declared.vocabulary.Signature.{Signature}
use Rattle.model_kit.specs.declared.atom.GroundAtom.{GroundAtom}
use Rattle.model_kit.specs.declared.atom.SchemaAtom.{SchemaAtom}
use Rattle.model_kit.specs.declared.atom.Term.{Term}
use Rattle.model_kit.specs.declared.atom.Term.TheVariants.{Param, Object}
use Rattle.model_kit.specs.declared.model.Model.{Model}
use Rattle.model_kit.specs.declared.model.Schema.{Schema}
use Rattle.model_kit.specs.declared.model.CostExpr.{CostExpr}
use Rattle.model_kit.specs.declared.model.CostExpr.TheVariants.{Number, Call}
use Rattle.model_kit.specs.Printed.{name_of}
use Rattle.model_kit.specs.Pairs.{names, number_of, is_named}
use Rattle.joint_models.specs.declared.lists.Lists.{Lists}
use Rattle.joint_models.specs.declared.numbers.Numbers.{Numbers}
use Rattle.joint_models.specs.declared.group.Group.{Group}
use Rattle.joint_models.specs.declared.group.Group.TheVariants.{Objects, Predicates, Functions}
use Rattle.joint_models.specs.Disagreements.{entries_in, has}
use Rattle.joint_models.specs.Lists.{AreListsOf}

-- the number at a place, and 0 past the end
abbrev pub number_at : List ℕ → ℕ → ℕ
number_at numbers place = slice_index numbers place

-- of each entry the number of its name among other entries
abbrev pub numbers_between : List Signature → List Signature → List ℕ
numbers_between from to = map (λ s. number_of (names to) s.name) from

-- of each word of one vocabulary its number in another
pub record AreNumbers (from to : Lists) (numbers : Numbers) : Type 0 where
  pub objects : numbers.objects ≡ numbers_between from.objects.entries to.objects.entries
  pub predicates : numbers.predicates
      ≡ numbers_between from.predicates.entries to.predicates.entries
  pub functions : numbers.functions ≡ numbers_between from.functions.entries to.functions.entries

abbrev pub atom_by : Numbers → GroundAtom → GroundAtom
atom_by numbers atom =
    record {
      predicate = number_at numbers.predicates atom.predicate;
      objects = map
          (number_at numbers.objects) atom.objects;
    }

abbrev pub term_by : Numbers → Term → Term
term_by numbers (Param i) = Param i
term_by numbers (Object object) = Object (number_at numbers.objects object)

abbrev pub schema_atom_by : Numbers → SchemaAtom → SchemaAtom
schema_atom_by numbers atom =
    record {
      predicate = number_at numbers.predicates atom.predicate;
      args = map (term_by numbers)
          atom.args;
    }

abbrev pub cost_by : Numbers → CostExpr → CostExpr
cost_by numbers (Number n) = Number n
cost_by numbers (Call function args) =
    Call (number_at numbers.functions function) (map (term_by numbers) args)

abbrev pub schema_by : Numbers → Schema → Schema
schema_by numbers schema = record {
  pre = map (schema_atom_by numbers) schema.pre;
  add = map (schema_atom_by numbers) schema.add;
  del = map (schema_atom_by numbers) schema.del;
  cost = cost_by numbers schema.cost;
}

abbrev pub value_by : Numbers → ℕ × List ℕ × ℕ → ℕ × List ℕ × ℕ
value_by numbers v = (number_at numbers.functions v.0, map (number_at numbers.objects) v.1, v.2)

-- what the planner lists, and after it what the user alone does, its types by new numbers
abbrev pub joined_by : List ℕ → List Signature → List Signature → List Signature
joined_by types planner user =
    planner ++ map (λ s. record { name = s.name; params = map (number_at types) s.params })
    (filter (λ s. not (is_named planner s.name)) user)

-- a model's schema of the action with a name, by new numbers, if the model has the action
abbrev pub schema_by_name : Model → Numbers → List ℕ → Option Schema
schema_by_name model numbers name =
    option_map (schema_by numbers) (slice_get model.schemas
    (number_of (names model.words.actions) name))

-- a model's own schema of an action, and where it lacks the action the other's
abbrev pub IsSchemaFor : Model → Numbers → Model → Numbers → List ℕ → Schema → Type 0
IsSchemaFor own own_numbers other other_numbers name schema =
    option_or (schema_by_name own own_numbers name) (schema_by_name other other_numbers name)
    ≡ Some schema

-- each action has its schema, at its place
pub record AreSchemasFor (own : Model) (own_numbers : Numbers) (other : Model)
    (other_numbers : Numbers) (actions : List Signature) (schemas : List Schema) : Type 0 where
  pub one_each : length schemas ≡ length actions
  pub each : (n : ℕ) (action : Signature) (schema : Schema) → slice_get actions n ≡ Some action
      → slice_get schemas n ≡ Some schema
      → IsSchemaFor own own_numbers other other_numbers action.name schema

-- the numbers of the actions that a list lacks
abbrev pub unknown_among : List Signature → List Signature → List ℕ
unknown_among known actions =
    filter (λ n. not (is_named known (name_of actions n))) (range_with_len 0 (length actions))

-- one of two lists has each action's name
abbrev pub HasAll : List Signature → List Signature → List Signature → Type 0
HasAll own other actions =
    All (λ action. IsTrue (is_named own action.name || is_named other action.name)) actions

-- a vocabulary has all that another has, with the same types
abbrev pub HasAllOf : Vocabulary → Vocabulary → Type 0
HasAllOf words from =
    (group : Group) (name : List ℕ) (types : List (List ℕ)) → has group from name ≡ Some types
    → has group words name ≡ Some types

-- a model, what its vocabulary lists, and the numbers of its words in a vocabulary that has them
-- all
pub record IsPartOf (words : Vocabulary) (model : Model) (lists : Lists)
    (numbers : Numbers) : Type 0 where
  pub whole : HasAllOf words model.words
  pub lists_are : AreListsOf model.words lists
  pub objects : numbers.objects ≡ numbers_between (entries_in Objects model.words) (entries_in
      Objects words)
  pub predicates : numbers.predicates
      ≡ numbers_between (entries_in Predicates model.words) (entries_in Predicates words)
  pub functions : numbers.functions ≡ numbers_between (entries_in Functions model.words) (entries_in
      Functions words)
