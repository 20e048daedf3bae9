-- The differences of two lists, form by form, are all differences of a group in order.
use Rattle.std.proofs.Common.{◌≡◌, ◌≢◌, ℕ, ◌≤◌, zero, suc, Bool, true, false, Option, Some, None, List, [], ◌∷◌, ◌++◌, length, get_or, map, refl, sym, ap, subst, ◌∙◌, arith, ⊎_elim, inl, inr}
use Rattle.std.specs.Prelude.{◌⊎◌, slice_get, All, AllPairs, Contains}
use Rattle.std.specs.List.{flat_map}
use Rattle.std.specs.Option.{option_map, option_to_list}
use Rattle.std.proofs.lemmas.List.Kept.{AllPairs-cons}
use Rattle.std.proofs.lemmas.List.Elements.{All-nil, All-cons, All-head, All-tail, All-append, All-map, All-weaker, All-contains}
use Rattle.std.proofs.lemmas.Option.{slice_get_within, slice_get-map}
use Rattle.model_kit.specs.declared.model.Model.{Model}
use Rattle.model_kit.specs.Places.{Place, meaning}
use Rattle.model_kit.specs.Differences.{group, IsPrintedBefore, IsListedBefore}
use Rattle.model_kit.specs.Printed.{printed}
use Rattle.model_kit.proofs.ListLemmas.{flat_contains}
use Rattle.feature_diff.specs.declared.difference.Difference.{Difference}
use Rattle.feature_diff.specs.declared.rows.FormRow.{FormRow}
use Rattle.feature_diff.specs.Differing.{place_of, places_of}
use Rattle.feature_diff.specs.Rows.{StandsAt, IsRow, AreRows}
use Rattle.feature_diff.specs.Gathering.{alone_at, both_at, spots_told, row_told}
use Rattle.feature_diff.specs.Parts.{IsOne, IsPart}
use Rattle.mre_base.proofs.Listed.{item_contained, place_of_contained, map-contains, contains-map}

-- ---- a form in a list of entries

mapped_at : {X : Type 0} (form : X → List ℕ) (xs : List X) (i : ℕ) (f : List ℕ) → slice_get (map form xs) i ≡ Some f → (x : X) × Contains xs x × (form x ≡ f)
mapped_at form xs i f at = by (slice_get xs i) refl (sym (slice_get-map form xs i) ∙ at)
  where
    by : (o : Option _) → slice_get xs i ≡ o → option_map form o ≡ Some f → (x : _) × Contains xs x × (form x ≡ f)
    by None is e = absurd (cc)
    by (Some x) is e = (x, item_contained xs i x is, cc)

none_mapped : {X : Type 0} (form : X → List ℕ) (xs : List X) (f : List ℕ) → StandsAt (map form xs) (length (map form xs)) f None → (x : X) → Contains xs x → form x ≢ f
none_mapped form xs f absent x there is =
    let at = place_of_contained (map form xs) (form x) (map-contains form xs x there) in
    absent at.0 (slice_get_within (map form xs) at.0 (form x) at.1) (at.1 ∙ ap Some is)

pairs_head : {X : Type 0} (R : X → X → Type 0) (x : X) (xs : List X) → AllPairs R (x ∷ xs) → All (R x) xs
pairs_head R x xs pairs = λ j d lt. pairs zero (suc j) d (omega arith) (omega arith)

pairs_tail : {X : Type 0} (R : X → X → Type 0) (x : X) (xs : List X) → AllPairs R (x ∷ xs) → AllPairs R xs
pairs_tail R x xs pairs = λ i j d lt within. pairs (suc i) (suc j) d (omega arith) (omega arith)

pub pairs_nil : {X : Type 0} (R : X → X → Type 0) → AllPairs R []
pairs_nil R = λ i j d lt within. absurd (omega arith)

module _ (planner user : Model) (g : ℕ) where
  abbrev IsHere : Difference → Type 0
  IsHere = IsOne planner user (λ n. n ≡ g)

  abbrev Agrees : Place → Type 0
  Agrees p = meaning planner p ≡ meaning user p

  -- the difference of an entry that both lists have
  abbrev pub BothTold : Place → Option Difference → Type 0
  BothTold p None = meaning planner p ≡ meaning user p
  BothTold p (Some d) = IsOne planner user (λ n. n ≡ g) d × (place_of d ≡ p)

  -- ---- from the difference of each row to the whole list

  -- the difference of one row
  record IsTold (form : List ℕ) (ds : List Difference) : Type 0 where
    each : All IsHere ds
    printed_as : All (λ d. printed planner.words (place_of d) ≡ form) ds
    short : length ds ≤ 1

  after_row : (f form : List ℕ) (ds : List Difference) → IsPrintedBefore f form → IsTold form ds → All (λ d. IsPrintedBefore f (printed planner.words (place_of d))) ds
  after_row f form ds before told = All-weaker (λ d. printed planner.words (place_of d) ≡ form) (λ d. IsPrintedBefore f (printed planner.words (place_of d))) (λ d is. subst (IsPrintedBefore f) (sym is) before) ds told.printed_as

  module _ (told : FormRow → List Difference) where
    after_rows : (f : List ℕ) (rows : List FormRow) → All (λ r. IsPrintedBefore f r.form) rows → All (λ r. IsTold r.form (told r)) rows
        → All (λ d. IsPrintedBefore f (printed planner.words (place_of d))) (flat_map told rows)
    after_rows f [] before each = All-nil (λ d. IsPrintedBefore f (printed planner.words (place_of d)))
    after_rows f (r ∷ rows) before each =
        All-append (λ d. IsPrintedBefore f (printed planner.words (place_of d))) (told r) (flat_map told rows)
        (after_row f r.form (told r) (All-head (λ s. IsPrintedBefore f s.form) r rows before) (All-head (λ s. IsTold s.form (told s)) r rows each))
        (after_rows f rows (All-tail (λ s. IsPrintedBefore f s.form) r rows before) (All-tail (λ s. IsTold s.form (told s)) r rows each))

    each_here : (rows : List FormRow) → All (λ r. IsTold r.form (told r)) rows → All IsHere (flat_map told rows)
    each_here [] each = All-nil IsHere
    each_here (r ∷ rows) each =
        All-append IsHere (told r) (flat_map told rows) (All-head (λ s. IsTold s.form (told s)) r rows each).each (each_here rows (All-tail (λ s. IsTold s.form (told s)) r rows each))

    -- at most one difference before differences of greater forms
    one_more : (form : List ℕ) (ds es : List Difference) → IsTold form ds → All IsHere es → All (λ d. IsPrintedBefore form (printed planner.words (place_of d))) es
        → AllPairs (IsListedBefore planner.words) (places_of es) → AllPairs (IsListedBefore planner.words) (places_of (ds ++ es))
    one_more form [] es is here after pairs = pairs
    one_more form (d ∷ []) es is here after pairs =
        AllPairs-cons (IsListedBefore planner.words) (place_of d) (places_of es)
        (All-map (IsListedBefore planner.words (place_of d)) place_of es
        (λ k e lt.
        inr (
          (All-head IsHere d [] is.each).inside ∙ sym (here k e lt).inside,
          subst (λ f. IsPrintedBefore f (printed planner.words (place_of (get_or es k e)))) (sym (All-head (λ d. printed planner.words (place_of d) ≡ form) d [] is.printed_as)) (after k e lt),
        )))
        pairs
    one_more form (d ∷ (c ∷ ds)) es is here after pairs = absurd (omega (arith, is.short))

    in_order : (rows : List FormRow) → All (λ r. IsTold r.form (told r)) rows → AllPairs (λ r s. IsPrintedBefore r.form s.form) rows → AllPairs (IsListedBefore planner.words) (places_of (flat_map told rows))
    in_order [] each ascend = pairs_nil (IsListedBefore planner.words)
    in_order (r ∷ rows) each ascend =
        let later = All-tail (λ s. IsTold s.form (told s)) r rows each in
        one_more r.form (told r) (flat_map told rows) (All-head (λ s. IsTold s.form (told s)) r rows each) (each_here rows later)
        (after_rows r.form rows (pairs_head (λ s t. IsPrintedBefore s.form t.form) r rows ascend) later)
        (in_order rows later (pairs_tail (λ s t. IsPrintedBefore s.form t.form) r rows ascend))

  module _ {X : Type 0} (form : X → List ℕ) (place : X → Place) (alone : X → Bool → Difference) (both : X → X → Option Difference) (ps us : List X) where
    abbrev IsIn : X → Type 0
    IsIn x = Contains ps x ⊎ Contains us x

    -- each listed place is one where the models differ, and each place of the group where they differ is listed
    pub record Tells : Type 0 where
      pub printed_as : (x : X) → printed planner.words (place x) ≡ form x
      pub in_group : (x : X) → group planner.words (place x) ≡ g
      pub placed : (x : X) (has : Bool) → place_of (alone x has) ≡ place x
      pub planner_alone : (x : X) → Contains ps x → ((y : X) → Contains us y → form y ≢ form x) → IsOne planner user (λ n. n ≡ g) (alone x true)
      pub user_alone : (y : X) → Contains us y → ((x : X) → Contains ps x → form x ≢ form y) → IsOne planner user (λ n. n ≡ g) (alone y false)
      pub in_both : (x y : X) → Contains ps x → Contains us y → form x ≡ form y → BothTold (place x) (both x y)
      pub apart : (x y : X) → Contains ps x ⊎ Contains us x → Contains ps y ⊎ Contains us y → form x ≡ form y → place x ≡ place y
      pub others : (p : Place) → group planner.words p ≡ g → (meaning planner p ≡ meaning user p) ⊎ ((x : X) × (Contains ps x ⊎ Contains us x) × (p ≡ place x))

    module _ (tells : Tells) where
      -- the difference of a row, and all entries with its form
      abbrev IsGood : List ℕ → List Difference → Type 0
      IsGood f ds = IsTold f ds × ((z : X) → IsIn z → form z ≡ f → Agrees (place z) ⊎ Contains (places_of ds) (place z))

      one_told : (f : List ℕ) (x : X) (d : Difference) → IsIn x → form x ≡ f → IsHere d → place_of d ≡ place x → IsGood f (d ∷ [])
      one_told f x d there is here at = (
        record {
          each = All-cons IsHere d [] here (All-nil IsHere);
          printed_as = All-cons (λ e. printed planner.words (place_of e) ≡ f) d [] (ap (printed planner.words) at ∙ tells.printed_as x ∙ is) (All-nil (λ e. printed planner.words (place_of e) ≡ f));
          short = omega arith;
        },
        λ z in_z same. inr (zero, omega arith, at ∙ tells.apart x z there in_z (is ∙ sym same)),
      )

      none_told : (f : List ℕ) → ((z : X) → IsIn z → form z ≡ f → Agrees (place z)) → IsGood f []
      none_told f agree = (record { each = All-nil IsHere; printed_as = All-nil (λ e. printed planner.words (place_of e) ≡ f); short = omega arith }, λ z in_z same. inl (agree z in_z same))

      both_told : (f : List ℕ) (x y : X) → Contains ps x → Contains us y → form x ≡ f → form y ≡ f → IsGood f (option_to_list (both x y))
      both_told f x y in_x in_y is_x is_y = by (both x y) (tells.in_both x y in_x in_y (is_x ∙ sym is_y))
        where
          by : (o : Option Difference) → BothTold (place x) o → IsGood f (option_to_list o)
          by None same = none_told f (λ z in_z is_z. let e : place x ≡ place z = tells.apart x z (inl in_x) in_z (is_x ∙ sym is_z) in subst Agrees e same)
          by (Some d) (here, at) = one_told f x d (inl in_x) is_x here at

      spots_good : (f : List ℕ) (p u : Option ℕ) → StandsAt (map form ps) (length (map form ps)) f p → StandsAt (map form us) (length (map form us)) f u → IsGood f (spots_told alone both ps us p u)
      spots_good f None None no_p no_u =
          none_told f (λ z in_z same. absurd (⊎_elim (λ there. none_mapped form ps f no_p z there same) (λ there. none_mapped form us f no_u z there same) in_z))
      spots_good f (Some i) None at no_u = by (slice_get ps i) refl (sym (slice_get-map form ps i) ∙ at)
        where
          by : (o : Option X) → slice_get ps i ≡ o → option_map form o ≡ Some f → IsGood f (alone_at alone both true o)
          by None is e = absurd (cc)
          by (Some x) is e =
              let same : form x ≡ f = cc in
              let there = item_contained ps i x is in
              one_told f x (alone x true) (inl there) same (tells.planner_alone x there (λ y in_y eq. none_mapped form us f no_u y in_y (eq ∙ same))) (tells.placed x true)
      spots_good f None (Some j) no_p at = by (slice_get us j) refl (sym (slice_get-map form us j) ∙ at)
        where
          by : (o : Option X) → slice_get us j ≡ o → option_map form o ≡ Some f → IsGood f (alone_at alone both false o)
          by None is e = absurd (cc)
          by (Some y) is e =
              let same : form y ≡ f = cc in
              let there = item_contained us j y is in
              one_told f y (alone y false) (inr there) same (tells.user_alone y there (λ x in_x eq. none_mapped form ps f no_p x in_x (eq ∙ same))) (tells.placed y false)
      spots_good f (Some i) (Some j) at other = by (slice_get ps i) (slice_get us j) refl refl (sym (slice_get-map form ps i) ∙ at) (sym (slice_get-map form us j) ∙ other)
        where
          by : (o q : Option X) → slice_get ps i ≡ o → slice_get us j ≡ q → option_map form o ≡ Some f → option_map form q ≡ Some f → IsGood f (both_at alone both o q)
          by None q is_o is_q e h = absurd (cc)
          by (Some x) None is_o is_q e h = absurd (cc)
          by (Some x) (Some y) is_o is_q e h = let same : form x ≡ f = cc in let too : form y ≡ f = cc in both_told f x y (item_contained ps i x is_o) (item_contained us j y is_q) same too

      module _ (rows : List FormRow) (are : AreRows (map form ps) (map form us) rows) where
        abbrev told : FormRow → List Difference
        told = row_told alone both ps us

        each_good : All (λ r. IsGood r.form (told r)) rows
        each_good = All-weaker (IsRow (map form ps) (map form us)) (λ r. IsGood r.form (told r)) (λ r is. spots_good r.form r.spots.planner r.spots.user is.0 is.1) rows are.each

        each_told : All (λ r. IsTold r.form (told r)) rows
        each_told = All-weaker (λ r. IsGood r.form (told r)) (λ r. IsTold r.form (told r)) (λ r good. good.0) rows each_good

        entry_told : (x : X) → IsIn x → Agrees (place x) ⊎ Contains (places_of (flat_map told rows)) (place x)
        entry_told x there =
            let at = are.complete (form x) (⊎_elim (λ p. inl (map-contains form ps x p)) (λ u. inr (map-contains form us x u)) there) in
            ⊎_elim (λ same. inl same)
            (λ listed.
            let d = contains-map place_of (told at.0) (place x) listed in
            inr (subst (Contains (places_of (flat_map told rows))) d.2 (map-contains place_of (flat_map told rows) d.0 (flat_contains told rows at.0 d.0 at.1 d.1))))
            ((All-contains (λ r. IsGood r.form (told r)) rows at.0 each_good at.1).1 x there (sym at.2))

        pub group_part : IsPart planner user (λ n. n ≡ g) (flat_map told rows)
        group_part = record {
          each = each_here told rows each_told;
          ordered = in_order told rows each_told are.ordered;
          complete = λ p in_p.
              ⊎_elim (λ same. inl same)
              (λ at. subst (λ q. Agrees q ⊎ Contains (places_of (flat_map told rows)) q) (sym at.2) (entry_told at.0 at.1))
              (tells.others p in_p);
        }
