-- The objects of the types that parameters have.
use Rattle.std.specs.Prelude.{ℕ, ◌≡◌, ◌<◌, ◌↔◌, true, false, Bool, List, length, slice_get, Some}
use Rattle.std.specs.Prelude.{Contains}
use Rattle.std.specs.Option.{option_map_or}
use Rattle.std.specs.FinSet as set
use Rattle.mre_base.specs.Sets.{BitSet}
use Rattle.model_kit.specs.declared.vocabulary.Vocabulary.{Vocabulary}
use Rattle.model_kit.specs.declared.vocabulary.Signature.{Signature}
use Rattle.model_kit.specs.Types.{ancestor}
use Rattle.model_kit.specs.Vocabulary.{is_object_of}

-- a parameter of an action has the type
abbrev pub IsUsed : Vocabulary → ℕ → Type 0
IsUsed words kind =
    (number : ℕ) × (action : Signature) × (slice_get words.actions number ≡ Some action)
    × Contains action.params kind

-- the set has the types of the object, its own and those above it
pub record AreTypesOf (words : Vocabulary) (object : ℕ) (bits : BitSet) : Type 0 where
  pub width : bits.width ≡ length words.types
  pub each : (kind : ℕ) → set.contains bits.members kind ≡ is_object_of words object kind

-- one set for each of the first objects
pub record AreObjectsOf (words : Vocabulary) (count : ℕ) (sets : List BitSet) : Type 0 where
  pub counted : length sets ≡ count
  pub each : (object : ℕ) (bits : BitSet) → slice_get sets object ≡ Some bits
      → AreTypesOf words object bits

-- the set has the types of the parameters of the first actions
pub record AreUsed (words : Vocabulary) (count : ℕ) (bits : BitSet) : Type 0 where
  pub width : bits.width ≡ length words.types
  pub each : (number : ℕ) (action : Signature) (kind : ℕ) → number < count
      → slice_get words.actions number ≡ Some action → Contains action.params kind
      → set.contains bits.members kind ≡ true

-- the set of an object has the type
abbrev pub has_type : List BitSet → ℕ → ℕ → Bool
has_type sets kind object =
    option_map_or (λ bits. set.contains bits.members kind) (slice_get sets object) false

-- a list for each of the first types; where a parameter has the type, the list has the objects of
-- the type
pub record AreFitting (words : Vocabulary) (count : ℕ) (fitting : List (List ℕ)) : Type 0 where
  pub counted : length fitting ≡ count
  pub each : (kind : ℕ) (objects : List ℕ) → slice_get fitting kind ≡ Some objects
      → IsUsed words kind → (object : ℕ) → Contains objects object
      ↔ (is_object_of words object kind ≡ true)

abbrev pub IsFitting : Vocabulary → List (List ℕ) → Type 0
IsFitting words fitting = AreFitting words (length words.types) fitting

-- the set has the types up to a number of parents of one
pub record AreAbove (types : List (List ℕ × ℕ)) (kind steps : ℕ) (bits : BitSet) : Type 0 where
  pub width : bits.width ≡ length types
  pub there : (k : ℕ) → k < steps → set.contains bits.members (ancestor types k kind) ≡ true
  pub only : (above : ℕ) → set.contains bits.members above ≡ true
      → (k : ℕ) × (k < steps) × (ancestor types k kind ≡ above)
