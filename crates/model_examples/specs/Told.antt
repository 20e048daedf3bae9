-- Told sets by lists of their numbers.
use Rattle.std.specs.Prelude.{ℕ, ◌↔◌, List, Contains, map}
use Rattle.std.specs.Ordering.{nat_cmp}
use Rattle.std.specs.FinSet as set
use Rattle.model_kit.specs.Explanations.{Task, IsWithin, IsComplete, IsMonotonic}

-- the set of some numbers
abbrev pub of : List ℕ → set.FinSet nat_cmp
of numbers = set.from_list numbers

-- the complete sets of a task are those of the lists, and no other
abbrev pub AreComplete : Task → List (List ℕ) → Type 0
AreComplete task lists =
    (told : set.FinSet nat_cmp) → IsWithin task told
    → IsComplete task told ↔ Contains (map of lists) told

-- the monotonic sets of a task are those of the lists, and no other
abbrev pub AreMonotonic : Task → List (List ℕ) → Type 0
AreMonotonic task lists =
    (told : set.FinSet nat_cmp) → IsWithin task told
    → IsMonotonic task told ↔ Contains (map of lists) told
