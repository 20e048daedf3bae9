-- How the differences so far grow.
use Rattle.std.proofs.Common.{◌≡◌, ℕ, ◌+◌, Option, Some, None, List, [], ◌∷◌, ◌++◌, length, take, map, refl, sym, ap, subst, ◌∙◌, arith, append_assoc, length-append, append-nil}
use Rattle.std.specs.Prelude.{slice_get, All}
use Rattle.std.specs.List.{flat_map}
use Rattle.std.specs.Option.{option_map}
use Rattle.std.proofs.lemmas.List.Concat.{flat_map-append}
use Rattle.std.proofs.lemmas.Option.{slice_get_within, slice_get-map}
use Rattle.std.proofs.lemmas.List.Elements.{All-weaker}
use Rattle.mre_base.proofs.Loops.{take_item}
use Rattle.feature_diff.specs.declared.difference.Difference.{Difference}
use Rattle.feature_diff.specs.declared.gathered.Gathered.{Gathered}
use Rattle.feature_diff.specs.declared.rows.FormRow.{FormRow}
use Rattle.feature_diff.specs.Gathering.{Grows, IsWithin, AreWithin}
use Rattle.feature_diff.specs.Rows.{StandsAt, IsRow, AreRows}

pub grows_none : (one : Gathered) → Grows one one []
grows_none one = record { counted = omega arith; kept = λ few. sym (append-nil one.kept) }

pub grows_on : (one two three : Gathered) (ds es : List Difference) → Grows one two ds → Grows two three es → Grows one three (ds ++ es)
grows_on one two three ds es first second = record {
  counted = omega (arith, first.counted, second.counted, length-append ds es);
  kept = λ few.
      second.kept few ∙ ap (λ begun. begun ++ es) (first.kept (omega (arith, second.counted, few))) ∙ append_assoc one.kept ds es;
}

-- the next row of a loop
pub grows_row : {X : Type 0} (told : X → List Difference) (rows : List X) (i : ℕ) (row : X) → slice_get rows i ≡ Some row → (one two three : Gathered)
    → Grows one two (flat_map told (take i rows)) → Grows two three (told row) → Grows one three (flat_map told (take (i + 1) rows))
grows_row told rows i row at one two three first second =
    let split : flat_map told (take (i + 1) rows) ≡ flat_map told (take i rows) ++ told row =
    ap (flat_map told) (take_item rows i row at) ∙ flat_map-append told (take i rows) (row ∷ []) ∙ ap (λ rest. flat_map told (take i rows) ++ rest) (append-nil (told row)) in
    subst (Grows one three) (sym split) (grows_on one two three (flat_map told (take i rows)) (told row) first second)

stands_within : {X : Type 0} (form : X → List ℕ) (xs : List X) (bound : ℕ) (f : List ℕ) (o : Option ℕ) → StandsAt (map form xs) bound f o → IsWithin o xs
stands_within form xs bound f None stands = tt
stands_within form xs bound f (Some place) stands = some_map (slice_get xs place) refl (sym (slice_get-map form xs place) ∙ stands)
  where
    some_map : (o : Option _) → slice_get xs place ≡ o → option_map form o ≡ Some f → IsWithin (Some place) xs
    some_map None is e = absurd (cc)
    some_map (Some x) is e = slice_get_within xs place x is

-- each row is within the lists
pub rows_within : {X : Type 0} (form : X → List ℕ) (planner user : List X) (rows : List FormRow) → AreRows (map form planner) (map form user) rows → All (AreWithin planner user) rows
rows_within form planner user rows are =
    All-weaker (IsRow (map form planner) (map form user)) (AreWithin planner user)
    (λ row is. (stands_within form planner (length (map form planner)) row.form row.spots.planner is.0, stands_within form user (length (map form user)) row.form row.spots.user is.1))
    rows are.each

pub rows_of : {X : Type 0} (form : X → List ℕ) (planner user : List X) (ps us : List (List ℕ)) (rows : List FormRow) → ps ≡ map form planner → us ≡ map form user → AreRows ps us rows → AreRows (map form planner) (map form user) rows
rows_of form planner user ps us rows e f are = subst (λ xs. AreRows xs (map form user) rows) e (subst (λ ys. AreRows ps ys rows) f are)
