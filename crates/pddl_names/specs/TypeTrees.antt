-- The types with their parents as numbers: each name that is listed, each parent and `object` has a
-- number, and so has its
-- parent.
use Rattle.std.specs.Prelude.{ℕ, ◌≡◌, List, [], ◌∷◌, ◌++◌, map, codes, length, unwrap_or}
use Rattle.pddl_names.specs.declared.type_tree.TypeTree.{TypeTree}
use Rattle.pddl_names.specs.Forests.{IsForest}
use Rattle.pddl_names.specs.Firsts.{typed_name}
use Rattle.pddl_names.specs.Listings.{Typed}
use Rattle.pddl_names.specs.Numbers.{number_of}

-- the parent of an entry as an entry of its own, below `object`
abbrev pub parent_entry : Typed → Typed
parent_entry e = (e.1, codes "object")

-- the types, then their parents, then `object`
abbrev pub with_parents : List Typed → List Typed
with_parents types = types ++ map parent_entry types ++ (codes "object", codes "object") ∷ []

-- the number of the parent of an entry
abbrev pub parent_number : List Typed → Typed → ℕ
parent_number entries e = unwrap_or (number_of typed_name entries e.1) 0

-- the tree has these types
pub record AreTypes (types : List Typed) (tree : TypeTree) : Type 0 where
  pub names : tree.names.entries ≡ with_parents types
  pub ups : tree.ups.items ≡ map (parent_number (with_parents types)) (with_parents types)

-- each number has a parent and a place in the forest of parents
pub record IsSoundTree (tree : TypeTree) : Type 0 where
  pub sized : length tree.ups.items ≡ length tree.names.entries
  pub forest : IsForest tree.ups.items tree.nodes.items
