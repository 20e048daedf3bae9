-- Differences that are counted, and kept while they are at most 256. The differences of two lists,
-- form by form.
use Rattle.std.specs.Prelude.{ℕ, ◌≡◌, ◌+◌, ◌<◌, ◌≤◌, Bool, true, false, Option, Some, None, List}
use Rattle.std.specs.Prelude.{[], ◌∷◌, ◌++◌, length, map, flat_map, slice_get}
use Rattle.std.specs.Option.{option_to_list}
use Rattle.feature_diff.specs.declared.difference.Difference.{Difference}
use Rattle.feature_diff.specs.declared.gathered.Gathered.{Gathered}
use Rattle.feature_diff.specs.declared.rows.FormRow.{FormRow}
use Rattle.feature_diff.specs.Rows.{AreRows}

-- these differences came to those so far
pub record Grows (before after : Gathered) (differences : List Difference) : Type 0 where
  pub counted : after.found ≡ before.found + length differences
  pub kept : after.found ≤ 256 → after.kept ≡ before.kept ++ differences

-- the place of something, if it has one, is within the list
abbrev pub IsWithin : {X : Type 0} → Option ℕ → List X → Type 0
IsWithin None xs = Unit {0}
IsWithin (Some place) xs = place < length xs

-- so are the two places of a row
abbrev pub AreWithin : {X : Type 0} → List X → List X → FormRow → Type 0
AreWithin planner user row = IsWithin row.spots.planner planner × IsWithin row.spots.user user

module _ {X : Type 0} (alone : X → Bool → Difference) (both : X → X → Option Difference) where
  -- what is told of an entry that one list alone has
  abbrev pub alone_at : Bool → Option X → List Difference
  alone_at has None = []
  alone_at has (Some x) = alone x has ∷ []

  -- what is told of an entry that both lists have
  abbrev pub both_at : Option X → Option X → List Difference
  both_at (Some x) (Some y) = option_to_list (both x y)
  both_at (Some x) None = []
  both_at None y = []

  -- what is told of the entries at two places, one in either list, which may be nowhere
  abbrev pub spots_told : List X → List X → Option ℕ → Option ℕ → List Difference
  spots_told planner user (Some i) (Some j) = both_at (slice_get planner i) (slice_get user j)
  spots_told planner user (Some i) None = alone_at true (slice_get planner i)
  spots_told planner user None (Some j) = alone_at false (slice_get user j)
  spots_told planner user None None = []

  abbrev pub row_told : List X → List X → FormRow → List Difference
  row_told planner user row = spots_told planner user row.spots.planner row.spots.user

  -- the differences of two lists, form by form, were added to those so far
  abbrev pub AllTold : (X → List ℕ) → List X → List X → Gathered → Gathered → Type 0
  AllTold form planner user before after =
      (rows : List FormRow) × AreRows (map form planner) (map form user) rows
      × Grows before after (flat_map (row_told planner user) rows)
