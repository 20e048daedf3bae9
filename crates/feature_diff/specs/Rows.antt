-- Two lists of printed forms side by side.
use Rattle.std.specs.Prelude.{ℕ, ◌≡◌, ◌≢◌, ◌+◌, ◌<◌, ◌⊎◌, Option, Some, None, List, length}
use Rattle.std.specs.Prelude.{slice_get, All, AllPairs, Contains}
use Rattle.std.specs.Ordering.{nat_cmp, on}
use Rattle.std.specs.declared.cmp.Ordering.{Ordering}
use Rattle.std.specs.Cmp.Lexicographic.{slice_cmp}
use Rattle.std.specs.BTreeMap.{BTreeMap, get}
use Rattle.model_kit.specs.Differences.{IsPrintedBefore}
use Rattle.feature_diff.specs.declared.form.Form.{Form}
use Rattle.feature_diff.specs.declared.rows.Spots.{Spots}
use Rattle.feature_diff.specs.declared.rows.FormRow.{FormRow}

abbrev pub form_cmp : Form → Form → Ordering
form_cmp = on (λ f. f.text) (slice_cmp nat_cmp)

-- the form is at this place of a list, or nowhere before the bound
abbrev pub StandsAt : List (List ℕ) → ℕ → List ℕ → Option ℕ → Type 0
StandsAt forms bound form None = (place : ℕ) → place < bound → slice_get forms place ≢ Some form
StandsAt forms bound form (Some place) = slice_get forms place ≡ Some form

-- the places of a form, if the look-up found something
abbrev pub spots_of : Option Spots → Spots
spots_of None = record { planner = None; user = None }
spots_of (Some spots) = spots

-- the map has the places of each form among the first forms of two lists
abbrev pub IsTable : List (List ℕ) → ℕ → List (List ℕ) → ℕ → BTreeMap Form Spots → Type 0
IsTable planner m user n table =
    (form : Form) → StandsAt planner m form.text (spots_of (get form_cmp table form)).planner
    × StandsAt user n form.text (spots_of (get form_cmp table form)).user

-- the second map also has the place of this form in the planner's list
abbrev pub AddsPlannerPlace : BTreeMap Form Spots → BTreeMap Form Spots → List ℕ → ℕ → Type 0
AddsPlannerPlace before after form place =
    (planner user : List (List ℕ)) (n : ℕ) → slice_get planner place ≡ Some form
    → IsTable planner place user n before → IsTable planner (place + 1) user n after

-- likewise in the user's list
abbrev pub AddsUserPlace : BTreeMap Form Spots → BTreeMap Form Spots → List ℕ → ℕ → Type 0
AddsUserPlace before after form place =
    (planner user : List (List ℕ)) (m : ℕ) → slice_get user place ≡ Some form
    → IsTable planner m user place before → IsTable planner m user (place + 1) after

-- the row has the places of its form in two lists
abbrev pub IsRow : List (List ℕ) → List (List ℕ) → FormRow → Type 0
IsRow planner user row =
    StandsAt planner (length planner) row.form row.spots.planner
    × StandsAt user (length user) row.form row.spots.user

-- the rows have the places of each form of two lists, in ASCII order and each once
pub record AreRows (planner user : List (List ℕ)) (rows : List FormRow) : Type 0 where
  pub each : All (IsRow planner user) rows
  pub ordered : AllPairs (λ r s. IsPrintedBefore r.form s.form) rows
  pub complete : (form : List ℕ) → Contains planner form ⊎ Contains user form
      → (row : FormRow) × Contains rows row × (row.form ≡ form)

-- the map is laid out as rows
abbrev pub IsLaidOut : BTreeMap Form Spots → List FormRow → Type 0
IsLaidOut table rows =
    (planner user : List (List ℕ)) → IsTable planner (length planner) user (length user) table
    → AreRows planner user rows
