-- Types and the objects that fit them (PDDL with typing). A type is the place of its entry, which
-- has its name and its parent.
use Rattle.std.specs.Prelude.{ℕ, ◌==◌, Bool, zero, suc, List, length, slice_get}
use Rattle.std.specs.List.{list_any, range_with_len}
use Rattle.std.specs.Option.{option_map_or}

-- the parent of a type; `object` is type 0 and its own parent
abbrev pub parent : List (List ℕ × ℕ) → ℕ → ℕ
parent types type = option_map_or (λ entry. entry.1) (slice_get types type) 0

-- the type that many parents up
abbrev pub ancestor : List (List ℕ × ℕ) → ℕ → ℕ → ℕ
ancestor types zero type = type
ancestor types (suc n) type = parent types (ancestor types n type)

-- a type is another or below it: the other is at most as many parents up as there are types
abbrev pub is_of_type : List (List ℕ × ℕ) → ℕ → ℕ → Bool
is_of_type types type above =
    list_any (λ n. ancestor types n type == above) (range_with_len 0 (suc (length types)))
