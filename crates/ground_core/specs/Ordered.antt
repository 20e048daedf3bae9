-- Things in the order of their printed forms.
use Rattle.std.specs.Prelude.{ℕ, ◌≡◌, ◌≤◌, ◌↔◌, Some, List, length, map, AllPairs, Contains}
use Rattle.std.specs.Ordering.{nat_cmp}
use Rattle.std.specs.Cmp.Lexicographic.{slice_cmp}
use Rattle.std.specs.BTreeMap.{BTreeMap, IsOrdered, get}
use Rattle.model_kit.specs.Differences.{IsPrintedBefore}
use Rattle.ground_core.specs.declared.ordering.InOrder.{InOrder}

-- the map has each of the first things under its printed form, and no other
pub record IsIndexOf {X : Type 0} (form : X → List ℕ) (count : ℕ) (IsThere : X → Type 0)
    (index : BTreeMap (List ℕ) X) : Type 0 where
  pub each : (name : List ℕ) (x : X) → get (slice_cmp nat_cmp) index name ≡ Some x
      → IsThere x × (form x ≡ name)
  pub all : (x : X) → IsThere x → get (slice_cmp nat_cmp) index (form x) ≡ Some x
  pub few : length index.entries ≤ count

abbrev pub IsIndex : {X : Type 0} → (X → List ℕ) → List X → BTreeMap (List ℕ) X → Type 0
IsIndex form things index = IsIndexOf form (length things) (Contains things) index

-- the entries of the map, key by key
pub record IsLaidOut {X : Type 0} (index : BTreeMap (List ℕ) X) (made : InOrder X) : Type 0 where
  pub names : made.names.items ≡ map (λ entry. entry.0) index.entries
  pub things : made.things ≡ map (λ entry. entry.1) index.entries
  pub ordered : IsOrdered (slice_cmp nat_cmp) index

-- the same things, with their printed forms, in ASCII order
pub record IsInOrder {X : Type 0} (form : X → List ℕ) (things : List X)
    (made : InOrder X) : Type 0 where
  pub named : made.names.items ≡ map form made.things
  pub ascend : AllPairs IsPrintedBefore made.names.items
  pub same : (x : X) → Contains made.things x ↔ Contains things x
  pub few : length made.things ≤ length things
