-- The facts that every vocabulary has.
use Rattle.std.specs.Prelude.{ℕ, ◌==◌, ◌&&◌, not, nat_lt, Bool, false, List, length, codes}
use Rattle.std.specs.Prelude.{slice_get}
use Rattle.std.specs.List.{list_all, range_with_len}
use Rattle.std.specs.Option.{option_map_or}
use Rattle.model_kit.specs.declared.vocabulary.Signature.{Signature}
use Rattle.model_kit.specs.Names.{is_name, are_entries}
use Rattle.model_kit.specs.Same.{same_numbers}
use Rattle.model_kit.specs.Types.{is_of_type}

-- a name in lower case, and the number of a type
abbrev pub is_typed : List (List ℕ × ℕ) → List ℕ × ℕ → Bool
is_typed types entry = is_name entry.0 && nat_lt entry.1 (length types)

abbrev pub same_name : List ℕ × ℕ → List ℕ × ℕ → Bool
same_name e f = same_numbers e.0 f.0

-- types or objects: no two have the same name
abbrev pub are_typed : List (List ℕ × ℕ) → List (List ℕ × ℕ) → Bool
are_typed types entries = are_entries (is_typed types) same_name entries

-- the first type is `object` and its own parent
abbrev pub is_first : List (List ℕ × ℕ) → Bool
is_first types =
    option_map_or (λ entry. same_numbers entry.0 (codes "object") && (entry.1 == 0))
    (slice_get types 0) false

-- each parent is a type, and each chain of parents ends at `object`
abbrev pub are_types : List (List ℕ × ℕ) → Bool
are_types types =
    is_first types && are_typed types types
    && list_all (λ type. is_of_type types type 0) (range_with_len 0 (length types))

-- a name in lower case, and the numbers of types
abbrev pub is_signature : List (List ℕ × ℕ) → Signature → Bool
is_signature types s = is_name s.name && list_all (λ type. nat_lt type (length types)) s.params

abbrev pub same_word : Signature → Signature → Bool
same_word s t = same_numbers s.name t.name

-- predicates, functions or actions: no two have the same name
abbrev pub are_signatures : List (List ℕ × ℕ) → List Signature → Bool
are_signatures types signatures = are_entries (is_signature types) same_word signatures

-- no function has the name that is kept for the sum of all costs
abbrev pub is_no_total : Signature → Bool
is_no_total s = not (same_numbers s.name (codes "total-cost"))

-- the lists are those of a vocabulary: types, objects, predicates, functions and actions
abbrev pub is_vocabulary : List (List ℕ × ℕ) → List (List ℕ × ℕ) → List Signature → List Signature
    → List Signature → Bool
is_vocabulary types objects predicates functions actions =
    are_types types
    && are_typed types objects
    && are_signatures types predicates
    && are_signatures types functions
    && list_all is_no_total functions
    && are_signatures types actions
