-- Entries with names and the numbers of types, and how they are found by their names.
use Rattle.std.specs.Prelude.{ℕ, ◌≡◌, List, [], ◌∷◌, length, Option, slice_get, String}
use Rattle.std.specs.Option.{unwrap_or}
use Rattle.std.specs.BTreeMap.{BTreeMap, get_by_text}
use Rattle.model_kit.specs.declared.vocabulary.Signature.{Signature}
use Rattle.model_kit.specs.Pairs.{names, number_of}

-- a type with its parent or an object with its type, as an entry with one type
abbrev pub typed_entry : List ℕ × ℕ → Signature
typed_entry e = record { name = e.0; params = e.1 ∷ [] }

-- the entry with a name
abbrev pub entry_named : List Signature → List ℕ → Option Signature
entry_named entries name = slice_get entries (number_of (names entries) name)

-- the map has the number of each name
abbrev pub ArePlaces : {A : Type 0} → List Signature → BTreeMap (String A) ℕ → Type 0
ArePlaces entries places =
    (name : List ℕ) → unwrap_or (get_by_text places name) (length entries)
    ≡ number_of (names entries) name
