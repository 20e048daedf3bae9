-- The differences on function values of two models, and the places of actions that the vocabulary lacks.
use Rattle.std.proofs.Common.{◌≡◌, ◌≢◌, ℕ, ◌+◌, ◌*◌, ◌≤◌, ◌&&◌, zero, suc, Bool, true, false, cond, Option, Some, None, List, [], ◌∷◌, length, map, refl, sym, ap, subst, ◌∙◌, arith, ⊎_elim, inl, inr}
use Rattle.std.specs.Prelude.{◌⊎◌, ◌==◌, not, nat_lt, IsTrue, All, AllPairs, Contains, slice_get}
use Rattle.std.specs.List.{flat_map, list_any}
use Rattle.std.proofs.lemmas.Bool.{true≢false, cases_Bool, eqb-true, eq-eqb, false_from_ne_true}
use Rattle.std.proofs.lemmas.Bool.Decides.{nat_tests, Decides-eqb, Decides-and}
use Rattle.std.specs.Bool.{Decides}
use Rattle.std.proofs.lemmas.List.Elements.{All-contains}
use Rattle.std.proofs.lemmas.Option.{slice_get_past}
use Rattle.model_kit.specs.declared.vocabulary.Vocabulary.{Vocabulary}
use Rattle.model_kit.specs.declared.model.Model.{Model}
use Rattle.model_kit.specs.declared.model.Schema.{Schema}
use Rattle.model_kit.specs.Places as place
use Rattle.model_kit.specs.Places.{Place, Feature, Price, Worth, Nothing, meaning, value_of, same_place}
use Rattle.model_kit.specs.Same.{same_numbers}
use Rattle.model_kit.specs.Differences.{group}
use Rattle.model_kit.specs.Printed.{form, name_of, object_name}
use Rattle.model_kit.specs.Vocabulary.{is_object_of, fits_signature}
use Rattle.model_kit.specs.Features.{same_key}
use Rattle.model_kit.proofs.FormLemmas.{function_form-injective}
use Rattle.model_kit.proofs.ModelFacts.{facts_of_model}
use Rattle.model_kit.proofs.Alike.{same_numbers-decides}
use Rattle.feature_diff.specs.declared.difference.Difference.TheVariants as told
use Rattle.feature_diff.specs.declared.gathered.Gathered.{Gathered}
use Rattle.feature_diff.specs.Gathering.{row_told, AllTold}
use Rattle.feature_diff.specs.Parts.{IsOne, GainsGroup}
use Rattle.feature_diff.specs.Telling.{value_alone, value_both}
use Rattle.feature_diff.proofs.GroupLemmas.{BothTold, Tells, group_part}

-- ---- actions that the vocabulary lacks

abbrev pub AgreeAt : Model → Model → Place → Type 0
AgreeAt planner user p = meaning planner p ≡ meaning user p

no_schema : (model : Model) (i : ℕ) → length model.words.actions ≤ i → slice_get model.schemas i ≡ None
no_schema model i past = slice_get_past model.schemas i (omega (arith, past, (facts_of_model model).one_each))

unknown_past : (n i : ℕ) (b : Bool) → n ≤ i → (nat_lt i n && b) ≡ false
unknown_past n i b past = grind (arith, nat_tests)

knows_past : (model : Model) (i : ℕ) → length model.words.actions ≤ i → meaning model (place.Knows i) ≡ Feature false
knows_past model i past = ap Feature (unknown_past (length model.schemas) i (not (list_any (λ unknown. unknown == i) model.unknown)) (omega (arith, past, (facts_of_model model).one_each)))

module _ (planner user : Model) (joint : user.words ≡ planner.words) (i : ℕ) (past : length planner.words.actions ≤ i) where
  past_too : length user.words.actions ≤ i
  past_too = subst (λ w. length w.actions ≤ i) (sym joint) past

  pub no_knowledge : AgreeAt planner user (place.Knows i)
  no_knowledge = knows_past planner i past ∙ sym (knows_past user i past_too)

  -- what is read from the schema
  pub no_content : {C : Type 0} (read : Option Schema → C) → read (slice_get planner.schemas i) ≡ read (slice_get user.schemas i)
  no_content read = ap read (no_schema planner i past ∙ sym (no_schema user i past_too))

-- ---- the value at a key

abbrev Key : Type 0
Key = ℕ × List ℕ × ℕ

pub key_decides : (v w : Key) → Decides (same_key v w) ((v.0 ≡ w.0) × (v.1 ≡ w.1))
key_decides v w = Decides-and (v.0 == w.0) (same_numbers v.1 w.1) (Decides-eqb v.0 w.0) (same_numbers-decides v.1 w.1)

value_cases : (vs : List Key) (f : ℕ) (xs : List ℕ) → (value_of vs f xs ≡ None) ⊎ ((v : Key) × Contains vs v × (v.0 ≡ f) × (v.1 ≡ xs))
value_cases [] f xs = inl refl
value_cases (v ∷ vs) f xs =
    ⊎_elim
    (λ hit. let same = (key_decides v (f, xs, 0)).0 hit in inr (v, (zero, omega arith, refl), same.0, same.1))
    (λ miss.
    ⊎_elim (λ none. inl (ap (λ b. cond b (Some v.2) (value_of vs f xs)) miss ∙ none)) (λ at. inr (at.0, (suc at.1.0, omega (arith, at.1.1), at.1.2), at.2, at.3)) (value_cases vs f xs))
    (cases_Bool (same_key v (f, xs, 0)))

value_absent : (vs : List Key) (f : ℕ) (xs : List ℕ) → ((v : Key) → Contains vs v → v.0 ≡ f → v.1 ≡ xs → ⊥) → value_of vs f xs ≡ None
value_absent vs f xs none = ⊎_elim (λ e. e) (λ at. absurd (none at.0 at.1 at.2 at.3)) (value_cases vs f xs)

value_listed : (vs : List Key) → AllPairs (λ v w. ¬ ((v.0 ≡ w.0) × (v.1 ≡ w.1))) vs → (v : Key) → Contains vs v → value_of vs v.0 v.1 ≡ Some v.2
value_listed [] apart v at = absurd (omega (arith, at.1))
value_listed (w ∷ vs) apart v (zero, lt, is) =
    let hit : same_key w v ≡ true = (key_decides w v).1 (ap (λ k. k.0) is, ap (λ k. k.1) is) in
    ap (λ b. cond b (Some w.2) (value_of vs v.0 v.1)) hit ∙ ap (λ k. Some k.2) is
value_listed (w ∷ vs) apart v (suc k, lt, is) =
    let miss : same_key w v ≡ false =
    false_from_ne_true (same_key w v) (λ e. apart zero (suc k) v (omega arith) (omega arith) (subst (λ u. (w.0 ≡ u.0) × (w.1 ≡ u.1)) (sym is) ((key_decides w v).0 e))) in
    ap (λ b. cond b (Some w.2) (value_of vs v.0 v.1)) miss
    ∙ value_listed vs (λ i j d lt within. apart (suc i) (suc j) d (omega arith) (omega arith)) v (k, omega arith, is)

-- ---- the group

abbrev pub value_place : Key → Place
value_place v = place.Value v.0 v.1

abbrev pub value_form : Vocabulary → Key → List ℕ
value_form words v = form (name_of words.functions v.0) (map (object_name words) v.1)

abbrev FitsFunction : Vocabulary → Key → Type 0
FitsFunction words v = IsTrue (fits_signature (is_object_of words) words.functions v.0 v.1)

pub values_fit : (words : Vocabulary) (model : Model) → model.words ≡ words → All (λ v. IsTrue (fits_signature (is_object_of words) words.functions v.0 v.1)) model.values
values_fit words model same = subst (λ w. All (FitsFunction w) model.values) same (facts_of_model model).values_kept.fit

module _ (planner user : Model) (joint : user.words ≡ planner.words) where
  abbrev last : ℕ
  last = 2 + 5 * length planner.words.actions

  either_fits : (v : Key) → Contains planner.values v ⊎ Contains user.values v → FitsFunction planner.words v
  either_fits v there =
      ⊎_elim (λ in_p. All-contains (FitsFunction planner.words) planner.values v (values_fit planner.words planner refl) in_p)
      (λ in_u. All-contains (FitsFunction planner.words) user.values v (values_fit planner.words user joint) in_u)
      there

  same_keys : (v w : Key) → Contains planner.values v ⊎ Contains user.values v → Contains planner.values w ⊎ Contains user.values w → value_form planner.words v ≡ value_form planner.words w → (v.0 ≡ w.0) × (v.1 ≡ w.1)
  same_keys v w in_v in_w e = function_form-injective planner.words v.0 w.0 v.1 w.1 (either_fits v in_v) (either_fits w in_w) e

  same_form : (v w : Key) → v.0 ≡ w.0 → v.1 ≡ w.1 → value_form planner.words v ≡ value_form planner.words w
  same_form v w e f = λ i. form (name_of planner.words.functions (e i)) (map (object_name planner.words) (f i))

  one_value : (v : Key) (one other : Option ℕ) → FitsFunction planner.words v → value_of planner.values v.0 v.1 ≡ one → value_of user.values v.0 v.1 ≡ other → one ≢ other
      → IsOne planner user (λ n. n ≡ last) (told.Value v.0 v.1 one other)
  one_value v one other fit here there apart = record {
    says = record { planner_has = ap Worth here; user_has = ap Worth there };
    differ = λ e. let same : value_of planner.values v.0 v.1 ≡ value_of user.values v.0 v.1 = cc in apart (sym here ∙ same ∙ there);
    fits = fit;
    inside = refl;
  }

  in_planner : (v : Key) → Contains planner.values v → value_of planner.values v.0 v.1 ≡ Some v.2
  in_planner = value_listed planner.values (facts_of_model planner).values_kept.apart

  in_user : (v : Key) → Contains user.values v → value_of user.values v.0 v.1 ≡ Some v.2
  in_user = value_listed user.values (facts_of_model user).values_kept.apart

  absent : (vs : List Key) (v : Key) → ((w : Key) → Contains vs w → value_form planner.words w ≢ value_form planner.words v) → value_of vs v.0 v.1 ≡ None
  absent vs v none = value_absent vs v.0 v.1 (λ w in_w e f. none w in_w (same_form w v e f))

  both_values : (v w : Key) → Contains planner.values v → Contains user.values w → value_form planner.words v ≡ value_form planner.words w → BothTold planner user last (value_place v) (value_both v w)
  both_values v w in_v in_w e = by (v.2 == w.2) refl
    where
      same : (v.0 ≡ w.0) × (v.1 ≡ w.1)
      same = same_keys v w (inl in_v) (inr in_w) e

      there : value_of user.values v.0 v.1 ≡ Some w.2
      there = (λ i. value_of user.values (same.0 i) (same.1 i)) ∙ in_user w in_w

      by : (b : Bool) → (v.2 == w.2) ≡ b → BothTold planner user last (value_place v) (cond b None (Some (told.Value v.0 v.1 (Some v.2) (Some w.2))))
      by true is = ap Worth (in_planner v in_v ∙ ap Some (eqb-true v.2 w.2 is) ∙ sym there)
      by false is = (
        one_value v (Some v.2) (Some w.2) (either_fits v (inl in_v)) (in_planner v in_v) there (λ f. let number : v.2 ≡ w.2 = cc in true≢false (sym (eq-eqb v.2 w.2 number) ∙ is)),
        refl,
      )

  value_at : (p : Place) → group planner.words p ≡ last → AgreeAt planner user p ⊎ ((v : Key) × (Contains planner.values v ⊎ Contains user.values v) × (p ≡ value_place v))
  value_at (place.Value f xs) e =
      ⊎_elim
      (λ no_p.
      ⊎_elim (λ no_u. inl (ap Worth (no_p ∙ sym no_u)))
      (λ at. inr (at.0, inr at.1, λ i. place.Value (sym at.2 i) (sym at.3 i)))
      (value_cases user.values f xs))
      (λ at. inr (at.0, inl at.1, λ i. place.Value (sym at.2 i) (sym at.3 i)))
      (value_cases planner.values f xs)
  value_at (place.Knows i) e = inl (no_knowledge planner user joint i (omega (arith, e)))
  value_at p e = absurd (omega arith)

  value_tells : Tells planner user last (value_form planner.words) value_place value_alone value_both planner.values user.values
  value_tells = record {
    printed_as = λ v. refl;
    in_group = λ v. refl;
    placed = λ v has. refl;
    planner_alone = λ v in_v none. one_value v (Some v.2) None (either_fits v (inl in_v)) (in_planner v in_v) (absent user.values v none) (λ e. cc);
    user_alone = λ w in_w none. one_value w None (Some w.2) (either_fits w (inr in_w)) (absent planner.values w none) (in_user w in_w) (λ e. cc);
    in_both = both_values;
    apart = λ v w in_v in_w e. let same = same_keys v w in_v in_w e in λ i. place.Value (same.0 i) (same.1 i);
    others = value_at;
  }

  pub values_gained : (before after : Gathered) → AllTold value_alone value_both (value_form planner.words) planner.values user.values before after → GainsGroup planner user (2 + 5 * length planner.words.actions) before after
  values_gained before after told = (
    flat_map (row_told value_alone value_both planner.values user.values) told.0,
    group_part planner user last (value_form planner.words) value_place value_alone value_both planner.values user.values value_tells told.0 told.1,
    told.2,
  )
