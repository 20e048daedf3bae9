-- How the map of printed forms grows, and what its entries are.
use Rattle.std.proofs.Common.{◌≡◌, ◌≢◌, ℕ, ◌+◌, true, cond, Option, Some, None, List, [], ◌∷◌, length, get_or, map, refl, sym, ap, subst, ◌∙◌, arith, ⊎_elim}
use Rattle.std.specs.Prelude.{◌⊎◌, slice_get, All, AllPairs, Contains}
use Rattle.std.specs.Ordering.{is_eq}
use Rattle.std.specs.BTreeMap.{BTreeMap, Updates, get, is_at, IsOrdered}
use Rattle.std.specs.Map.{lookup, keys_of}
use Rattle.std.specs.List.{AllByRecursion}
use Rattle.std.specs.List.Sorted.{IsStrictlySortedBy}
use Rattle.std.specs.Option.{option_map}
use Rattle.std.specs.declared.cmp.Ordering.TheVariants.{Less}
use Rattle.std.specs.Cmp.{IsTotalOrder}
use Rattle.std.proofs.lemmas.Cmp.{on_total, nat_list_cmp_total}
use Rattle.std.proofs.lemmas.Map.Keys.{sorted_head, sorted_tail}
use Rattle.std.proofs.lemmas.Map.Entries.{btree_map_get_place, place_from_lookup}
use Rattle.std.proofs.lemmas.List.Kept.{AllPairs-cons}
use Rattle.std.proofs.lemmas.List.Elements.{All-nil, All-cons, All-map}
use Rattle.std.proofs.lemmas.Option.{slice_get_within, get_or_from_slice_get, slice_get-get_or, slice_get-map}
use Rattle.model_kit.specs.Differences.{IsPrintedBefore}
use Rattle.std.proofs.lemmas.Bool.{true≢false, cases_Bool, cases_order}
use Rattle.std.proofs.lemmas.Slice.Eq.{bytes_eq-Decides}
use Rattle.std.proofs.lemmas.Map.Text.{is_eq-slice_cmp}
use Rattle.feature_diff.specs.declared.form.Form.{Form}
use Rattle.feature_diff.specs.declared.rows.Spots.{Spots}
use Rattle.feature_diff.specs.declared.rows.FormRow.{FormRow}
use Rattle.feature_diff.specs.Rows.{form_cmp, StandsAt, spots_of, IsTable, IsRow, AreRows}
use Rattle.mre_base.proofs.Listed.{item_contained, place_of_contained}

-- keys that tie have one text
tie_text : (key q : Form) → is_eq (form_cmp key q) ≡ true → key.text ≡ q.text
tie_text key q tie = (bytes_eq-Decides key.text q.text).0 (sym (is_eq-slice_cmp key.text q.text) ∙ tie)

text_tie : (key q : Form) → key.text ≡ q.text → is_eq (form_cmp key q) ≡ true
text_tie key q same = is_eq-slice_cmp key.text q.text ∙ (bytes_eq-Decides key.text q.text).1 same

-- what holds of a form stays so when another form is at the next place
stands_more : (forms : List (List ℕ)) (place : ℕ) (form q : List ℕ) (o : Option ℕ) → slice_get forms place ≡ Some form → form ≢ q → StandsAt forms place q o → StandsAt forms (place + 1) q o
stands_more forms place form q (Some i) at apart before = before
stands_more forms place form q None at apart before = λ j lt is.
    ⊎_elim (λ same. let both : slice_get forms place ≡ Some q = subst (λ n. slice_get forms n ≡ Some q) same is in let e : form ≡ q = cc in apart e)
    (⊎_elim (λ less. before j less is) (λ more. absurd (omega arith)))
    (cases_order j place)

module _ (old new : BTreeMap Form Spots) (key : Form) (form : List ℕ) (place : ℕ) (text : key.text ≡ form) (planner user : List (List ℕ)) where
  pub planner_noted : Updates form_cmp old new key (Some (record { planner = Some place; user = (spots_of (get form_cmp old key)).user }))
      → (n : ℕ) → slice_get planner place ≡ Some form → IsTable planner place user n old → IsTable planner (place + 1) user n new
  planner_noted updates n at before q =
      let now : Option Spots = Some (record { planner = Some place; user = (spots_of (get form_cmp old key)).user }) in
      let P : Option Spots → Type 0 = λ o. StandsAt planner (place + 1) q.text (spots_of o).planner × StandsAt user n q.text (spots_of o).user in
      ⊎_elim
      (λ tie.
      let same : key.text ≡ q.text = tie_text key q tie in
      let found : get form_cmp new q ≡ now = updates.0 q ∙ ap (λ b. cond b now (get form_cmp old q)) tie in
      subst P (sym found) (subst (λ f. slice_get planner place ≡ Some f) (sym text ∙ same) at, subst (λ f. StandsAt user n f (spots_of (get form_cmp old key)).user) same (before key).1))
      (λ miss.
      let found : get form_cmp new q ≡ get form_cmp old q = updates.0 q ∙ ap (λ b. cond b now (get form_cmp old q)) miss in
      subst P (sym found) (stands_more planner place form q.text (spots_of (get form_cmp old q)).planner at (λ e. true≢false (sym (text_tie key q (text ∙ e)) ∙ miss)) (before q).0, (before q).1))
      (cases_Bool (is_eq (form_cmp key q)))

  pub user_noted : Updates form_cmp old new key (Some (record { planner = (spots_of (get form_cmp old key)).planner; user = Some place }))
      → (m : ℕ) → slice_get user place ≡ Some form → IsTable planner m user place old → IsTable planner m user (place + 1) new
  user_noted updates m at before q =
      let now : Option Spots = Some (record { planner = (spots_of (get form_cmp old key)).planner; user = Some place }) in
      let P : Option Spots → Type 0 = λ o. StandsAt planner m q.text (spots_of o).planner × StandsAt user (place + 1) q.text (spots_of o).user in
      ⊎_elim
      (λ tie.
      let same : key.text ≡ q.text = tie_text key q tie in
      let found : get form_cmp new q ≡ now = updates.0 q ∙ ap (λ b. cond b now (get form_cmp old q)) tie in
      subst P (sym found) (subst (λ f. StandsAt planner m f (spots_of (get form_cmp old key)).planner) same (before key).0, subst (λ f. slice_get user place ≡ Some f) (sym text ∙ same) at))
      (λ miss.
      let found : get form_cmp new q ≡ get form_cmp old q = updates.0 q ∙ ap (λ b. cond b now (get form_cmp old q)) miss in
      subst P (sym found) ((before q).0, stands_more user place form q.text (spots_of (get form_cmp old q)).user at (λ e. true≢false (sym (text_tie key q (text ∙ e)) ∙ miss)) (before q).1))
      (cases_Bool (is_eq (form_cmp key q)))

-- nothing is known of the empty lists
pub nothing_noted : (table : BTreeMap Form Spots) → table.entries ≡ [] → (planner user : List (List ℕ)) → IsTable planner 0 user 0 table
nothing_noted table none planner user q =
    let found : get form_cmp table q ≡ None = ap (λ es. lookup (is_at (form_cmp q)) es) none in
    let P : Option Spots → Type 0 = λ o. StandsAt planner 0 q.text (spots_of o).planner × StandsAt user 0 q.text (spots_of o).user in
    subst P (sym found) ((λ j lt. absurd (omega arith)), (λ j lt. absurd (omega arith)))

-- an entry of the map as a row
abbrev pub row_of : Form × Spots → FormRow
row_of entry = record { form = entry.0.text; spots = entry.1 }

form_total : IsTotalOrder form_cmp
form_total = on_total (λ f. f.text) nat_list_cmp_total

abbrev Ascends : FormRow → FormRow → Type 0
Ascends r s = IsPrintedBefore r.form s.form

rows_ascend : (es : List (Form × Spots)) → IsStrictlySortedBy form_cmp (keys_of es) → AllPairs Ascends (map row_of es)
rows_ascend [] sorted = λ i j d lt within. absurd (omega arith)
rows_ascend (e ∷ es) sorted =
    AllPairs-cons Ascends (row_of e) (map row_of es)
    (All-map (Ascends (row_of e)) row_of es (before es (sorted_head form_cmp e.0 (keys_of es) sorted)))
    (rows_ascend es (sorted_tail form_cmp e.0 (keys_of es) sorted))
  where
    before : (rest : List (Form × Spots)) → AllByRecursion (λ k. form_cmp e.0 k ≡ Less) (keys_of rest) → All (λ f. Ascends (row_of e) (row_of f)) rest
    before [] all = All-nil (λ f. Ascends (row_of e) (row_of f))
    before (f ∷ rest) all = All-cons (λ g. Ascends (row_of e) (row_of g)) f rest all.0 (before rest all.1)

-- the entries as rows
module _ (table : BTreeMap Form Spots) (sorted : IsOrdered form_cmp table) (planner user : List (List ℕ)) (known : IsTable planner (length planner) user (length user) table) where
  entry_row : (i : ℕ) (e : Form × Spots) → slice_get table.entries i ≡ Some e → IsRow planner user (row_of e)
  entry_row i e at =
      let found : get form_cmp table e.0 ≡ Some e.1 = btree_map_get_place form_total table i e.0 e.1 sorted at in
      let P : Option Spots → Type 0 = λ o. StandsAt planner (length planner) e.0.text (spots_of o).planner × StandsAt user (length user) e.0.text (spots_of o).user in
      subst P found (known e.0)

  -- a form that the map finds is that of a row
  found_row : (form : List ℕ) (o : Option Spots) → get form_cmp table (record { text = form }) ≡ o
      → (StandsAt planner (length planner) form (spots_of o).planner → StandsAt user (length user) form (spots_of o).user → o ≡ None → ⊥)
      → (row : FormRow) × Contains (map row_of table.entries) row × (row.form ≡ form)
  found_row form None is some =
      let P : Option Spots → Type 0 = λ o. StandsAt planner (length planner) form (spots_of o).planner × StandsAt user (length user) form (spots_of o).user in
      let here = subst P is (known (record { text = form })) in absurd (some here.0 here.1 refl)
  found_row form (Some spots) is some =
      let key : Form = record { text = form } in
      let at = place_from_lookup (is_at (form_cmp key)) table.entries spots is in
      let tie : form ≡ at.1.text = tie_text key at.1 at.3 in
      (row_of (at.1, spots), item_contained (map row_of table.entries) at.0 (row_of (at.1, spots)) (slice_get-map row_of table.entries at.0 ∙ ap (option_map row_of) at.2), sym tie)

  pub entries_rows : AreRows planner user (map row_of table.entries)
  entries_rows = record {
    each = All-map (IsRow planner user) row_of table.entries (λ k d lt. entry_row k (get_or table.entries k d) (slice_get-get_or table.entries k d lt));
    ordered = rows_ascend table.entries sorted;
    complete = λ form either. found_row form (get form_cmp table (record { text = form })) refl (λ p u none. stands form either none p u);
  }
    where
      stands : (form : List ℕ) → Contains planner form ⊎ Contains user form → {o : Option Spots} → o ≡ None
          → StandsAt planner (length planner) form (spots_of o).planner → StandsAt user (length user) form (spots_of o).user → ⊥
      stands form either {o} none p u =
          let absent = subst (λ (x : Option Spots). StandsAt planner (length planner) form (spots_of x).planner × StandsAt user (length user) form (spots_of x).user) none (p, u) in
          ⊎_elim
          (λ there. let at = place_of_contained planner form there in absent.0 at.0 (slice_get_within planner at.0 form at.1) at.1)
          (λ there. let at = place_of_contained user form there in absent.1 at.0 (slice_get_within user at.0 form at.1) at.1)
          either
