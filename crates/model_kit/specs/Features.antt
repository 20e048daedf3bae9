-- The facts that every model has: what it lists fits its vocabulary, and no feature is listed
-- twice.
use Rattle.std.specs.Prelude.{ℕ, ◌==◌, ◌&&◌, nat_lt, Bool, true, IsTrue, List, length}
use Rattle.std.specs.Cmp.Lexicographic.{pointwise}
use Rattle.model_kit.specs.declared.vocabulary.Vocabulary.{Vocabulary}
use Rattle.model_kit.specs.declared.vocabulary.Signature.{Signature}
use Rattle.model_kit.specs.declared.atom.GroundAtom.{GroundAtom}
use Rattle.model_kit.specs.declared.atom.SchemaAtom.{SchemaAtom}
use Rattle.model_kit.specs.declared.model.Schema.{Schema}
use Rattle.model_kit.specs.declared.model.CostExpr.{CostExpr}
use Rattle.model_kit.specs.declared.model.CostExpr.TheVariants.{Number, Call}
use Rattle.model_kit.specs.Names.{are_entries}
use Rattle.model_kit.specs.Same.{same_numbers, same_atom, same_schema_atom}
use Rattle.model_kit.specs.Vocabulary.{is_object_of, is_term_of, fits_signature, is_ground_atom}
use Rattle.model_kit.specs.Vocabulary.{is_schema_atom}

-- ground atoms of the vocabulary, without repeats
abbrev pub are_ground_atoms : Vocabulary → List GroundAtom → Bool
are_ground_atoms words atoms = are_entries (is_ground_atom words) same_atom atoms

-- atoms of a schema with these parameters, without repeats
abbrev pub are_schema_atoms : Vocabulary → List ℕ → List SchemaAtom → Bool
are_schema_atoms words params atoms =
    are_entries (is_schema_atom words params) same_schema_atom atoms

-- a number, or a function with terms that fit its parameters
abbrev pub is_cost : Vocabulary → List ℕ → CostExpr → Bool
is_cost words params (Number n) = true
is_cost words params (Call function args) =
    fits_signature (is_term_of words params) words.functions function args

-- the cost of an action with some parameters
abbrev pub IsCost : Vocabulary → CostExpr → Type 0
IsCost words cost = (params : List ℕ) × IsTrue (is_cost words params cost)

-- a schema of the action with this signature
abbrev pub is_schema : Vocabulary → Schema → Signature → Bool
is_schema words schema action =
    are_schema_atoms words action.params schema.pre
    && are_schema_atoms words action.params schema.add
    && are_schema_atoms words action.params schema.del
    && is_cost words action.params schema.cost

-- a function with objects that fit its parameters, and a number
abbrev pub is_value : Vocabulary → ℕ × List ℕ × ℕ → Bool
is_value words v = fits_signature (is_object_of words) words.functions v.0 v.1

-- values of one function at the same objects
abbrev pub same_key : ℕ × List ℕ × ℕ → ℕ × List ℕ × ℕ → Bool
same_key v w = (v.0 == w.0) && same_numbers v.1 w.1

-- the number of an action
abbrev pub is_action : Vocabulary → ℕ → Bool
is_action words action = nat_lt action (length words.actions)

-- the lists are those of a model: initial facts, goal facts, one schema for each action in their
-- order, function values and unknown actions
abbrev pub is_model : Vocabulary → List GroundAtom → List GroundAtom → List Schema
    → List (ℕ × List ℕ × ℕ) → List ℕ → Bool
is_model words init goal schemas values unknown =
    are_ground_atoms words init
    && are_ground_atoms words goal
    && pointwise (is_schema words) schemas words.actions
    && are_entries (is_value words) same_key values
    && are_entries (is_action words) ◌==◌ unknown
