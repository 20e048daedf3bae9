-- Which numbers names have. A declared thing is known by its number, the place of its entry.
use Rattle.std.specs.Prelude.{ℕ, ◌≡◌, List, Option, Some, slice_get, if◌then◌else◌}
use Rattle.std.specs.List.{position_from}
use Rattle.std.specs.Option.{option_map}
use Rattle.std.specs.Str.{bytes_eq}
use Rattle.std.specs.BTreeMap.{get}
use Rattle.std.specs.Cmp.Lexicographic.{slice_cmp}
use Rattle.std.specs.Ordering.{nat_cmp}
use Rattle.model_kit.specs.declared.vocabulary.Signature.{Signature}
use Rattle.pddl_names.specs.declared.names.NameTable.{NameTable}

-- the entry with this number has the name
abbrev pub IsNumberOf : {X : Type 0} → (X → List ℕ) → List X → List ℕ → ℕ → Type 0
IsNumberOf name_of entries name number = option_map name_of (slice_get entries number) ≡ Some name

-- no entry has the name
abbrev pub IsUndeclared : {X : Type 0} → (X → List ℕ) → List X → List ℕ → Type 0
IsUndeclared name_of entries name = (number : ℕ) → ¬ IsNumberOf name_of entries name number

-- the name of a type or an object, and of a predicate, a function or an action
abbrev pub entry_name : List ℕ × ℕ → List ℕ
entry_name entry = entry.0

abbrev pub word_name : Signature → List ℕ
word_name signature = signature.name

-- a name by itself
abbrev pub text_name : List ℕ → List ℕ
text_name text = text

-- the number of the first entry with the name
abbrev pub number_of : {X : Type 0} → (X → List ℕ) → List X → List ℕ → Option ℕ
number_of name_of entries name = position_from (λ entry. bytes_eq (name_of entry) name) 0 entries

-- what a table has for a name
abbrev pub number_in : NameTable → List ℕ → Option ℕ
number_in table name = get (slice_cmp nat_cmp) table.numbers name

-- the name has this number after, and each other name has what it had before
abbrev pub PutsNumber : NameTable → NameTable → List ℕ → ℕ → Type 0
PutsNumber old new name number =
    (other : List ℕ) → number_in new other
    ≡ (if bytes_eq name other then Some number else number_in old other)

-- a table has the numbers of these entries
abbrev pub IsTableOf : {X : Type 0} → (X → List ℕ) → List X → NameTable → Type 0
IsTableOf name_of entries table =
    (name : List ℕ) → number_in table name ≡ number_of name_of entries name
