-- How the differences of one group after another come to all differences.
use Rattle.std.proofs.Common.{◌≡◌, ◌≢◌, ℕ, ◌+◌, ◌*◌, ◌<◌, ◌≤◌, false, List, [], ◌∷◌, ◌++◌, suc, length, refl, sym, ap, subst, ◌∙◌, arith, ⊎_elim, inl, inr, length-append}
use Rattle.std.specs.Prelude.{◌⊎◌, All, AllPairs, Contains}
use Rattle.std.specs.Option.{option_map_or}
use Rattle.std.specs.List.{list_any}
use Rattle.std.proofs.lemmas.Bool.{cases_order}
use Rattle.std.proofs.lemmas.List.{map-append}
use Rattle.std.proofs.lemmas.List.Kept.{AllPairs-cons}
use Rattle.std.proofs.lemmas.List.Elements.{All-nil, All-cons, All-head, All-tail, All-append, All-map, All-weaker, All-contains, Contains-append_left, Contains-append_right}
use Rattle.model_kit.specs.declared.model.Model.{Model}
use Rattle.model_kit.specs.declared.model.Schema.{Schema}
use Rattle.model_kit.specs.Places as place
use Rattle.model_kit.specs.Places.{Place, Feature, Price, Nothing, meaning, schema_has}
use Rattle.model_kit.specs.Differences.{group, IsListedBefore}
use Rattle.model_kit.specs.Same.{same_schema_atom}
use Rattle.feature_diff.specs.declared.difference.Difference.{Difference}
use Rattle.feature_diff.specs.declared.gathered.Gathered.{Gathered}
use Rattle.feature_diff.specs.Differing.{place_of, places_of, Says, FitsWords, AreDifferencesOf, AreTooMany}
use Rattle.feature_diff.specs.Gathering.{Grows}
use Rattle.feature_diff.specs.Parts.{IsOne, IsPart, GainsGroup, IsGathered}
use Rattle.feature_diff.proofs.GatherLemmas.{grows_none}
use Rattle.feature_diff.proofs.GroupLemmas.{pairs_nil}
use Rattle.feature_diff.proofs.ValueLemmas.{no_knowledge, no_content}
use Rattle.mre_base.proofs.Listed.{contains-map}

pub pairs_append : {X : Type 0} (R : X → X → Type 0) (xs ys : List X) → AllPairs R xs → AllPairs R ys → All (λ x. All (R x) ys) xs → AllPairs R (xs ++ ys)
pairs_append R [] ys first second across = second
pairs_append R (x ∷ xs) ys first second across =
    AllPairs-cons R x (xs ++ ys) (All-append (R x) xs ys (λ j d lt. first 0 (suc j) d (omega arith) (omega arith)) (All-head (λ y. All (R y) ys) x xs across))
    (pairs_append R xs ys (λ i j d lt within. first (suc i) (suc j) d (omega arith) (omega arith)) second (All-tail (λ y. All (R y) ys) x xs across))

module _ (planner user : Model) where
  inside_more : (g : ℕ) (In : ℕ → Type 0) → ((n : ℕ) → In n → n < g + 1) → (d : Difference) → IsOne planner user In d → IsOne planner user (λ n. n < g + 1) d
  inside_more g In more d one = record { says = one.says; differ = one.differ; fits = one.fits; inside = more (group planner.words (place_of d)) one.inside }

  part_more : (g : ℕ) (ds es : List Difference) → IsPart planner user (λ n. n < g) ds → IsPart planner user (λ n. n ≡ g) es → IsPart planner user (λ n. n < g + 1) (ds ++ es)
  part_more g ds es first second =
      let split : places_of (ds ++ es) ≡ places_of ds ++ places_of es = map-append place_of ds es in
      record {
        each =
            All-append (IsOne planner user (λ n. n < g + 1)) ds es
            (All-weaker (IsOne planner user (λ n. n < g)) (IsOne planner user (λ n. n < g + 1)) (inside_more g (λ n. n < g) (λ n lt. omega arith)) ds first.each)
            (All-weaker (IsOne planner user (λ n. n ≡ g)) (IsOne planner user (λ n. n < g + 1)) (inside_more g (λ n. n ≡ g) (λ n is. omega arith)) es second.each);
        ordered =
            subst (AllPairs (IsListedBefore planner.words)) (sym split)
            (pairs_append (IsListedBefore planner.words) (places_of ds) (places_of es) first.ordered second.ordered
            (All-map (λ p. All (IsListedBefore planner.words p) (places_of es)) place_of ds
            (All-weaker (IsOne planner user (λ n. n < g)) (λ d. All (IsListedBefore planner.words (place_of d)) (places_of es))
            (λ d one.
            All-map (IsListedBefore planner.words (place_of d)) place_of es
            (All-weaker (IsOne planner user (λ n. n ≡ g)) (λ e. IsListedBefore planner.words (place_of d) (place_of e)) (λ e other. inl (omega (arith, one.inside, other.inside))) es second.each))
            ds first.each)));
        complete = λ p lt.
            ⊎_elim
            (λ same. told p es split (λ there. Contains-append_right (places_of ds) (places_of es) p there) (second.complete p same))
            (λ apart.
            ⊎_elim (λ less. told p ds split (λ there. Contains-append_left (places_of ds) (places_of es) p there) (first.complete p less)) (λ more. absurd (omega (arith, lt, more))) apart)
            (cases_order (group planner.words p) g);
      }
    where
      told : (p : Place) (some : List Difference) → places_of (ds ++ es) ≡ places_of ds ++ places_of es → (Contains (places_of some) p → Contains (places_of ds ++ places_of es) p)
          → (meaning planner p ≡ meaning user p) ⊎ Contains (places_of some) p → (meaning planner p ≡ meaning user p) ⊎ Contains (places_of (ds ++ es)) p
      told p some split into either = ⊎_elim (λ same. inl same) (λ there. inr (subst (λ ps. Contains ps p) (sym split) (into there))) either

  pub gathered_more : (g : ℕ) (one two : Gathered) → IsGathered planner user g one → GainsGroup planner user g one two → IsGathered planner user (g + 1) two
  gathered_more g one two (ds, part, counted, kept) (es, more, grows) = (
    ds ++ es,
    part_more g ds es part more,
    omega (arith, counted, grows.counted, length-append ds es),
    λ few. grows.kept few ∙ ap (λ begun. begun ++ es) (kept (omega (arith, few, grows.counted))),
  )

  pub gathered_next : (g h : ℕ) → g + 1 ≡ h → (one two : Gathered) → GainsGroup planner user g one two → IsGathered planner user g one → IsGathered planner user h two
  gathered_next g h e one two gains before = subst (λ n. IsGathered planner user n two) e (gathered_more g one two before gains)

  pub gathered_none : (one : Gathered) → one.found ≡ 0 → one.kept ≡ [] → IsGathered planner user 0 one
  gathered_none one none empty = (
    [],
    record { each = All-nil (IsOne planner user (λ n. n < 0)); ordered = pairs_nil (IsListedBefore planner.words); complete = λ p lt. absurd (omega (arith, lt)) },
    none,
    λ few. empty,
  )

  -- ---- groups of one place

  pub agreed_group : (g : ℕ) (one : Gathered) → ((p : Place) → group planner.words p ≡ g → meaning planner p ≡ meaning user p) → GainsGroup planner user g one one
  agreed_group g one agree = (
    [],
    record { each = All-nil (IsOne planner user (λ n. n ≡ g)); ordered = pairs_nil (IsListedBefore planner.words); complete = λ p is. inl (agree p is) },
    grows_none one,
  )

  pub told_group : (g : ℕ) (one two : Gathered) (d : Difference) → IsOne planner user (λ n. n ≡ g) d → ((p : Place) → group planner.words p ≡ g → p ≡ place_of d) → Grows one two (d ∷ []) → GainsGroup planner user g one two
  told_group g one two d is only grows = (
    d ∷ [],
    record {
      each = All-cons (IsOne planner user (λ n. n ≡ g)) d [] is (All-nil (IsOne planner user (λ n. n ≡ g)));
      ordered = λ i j e lt within. absurd (omega (arith, lt, within));
      complete = λ p at. inr (0, omega arith, sym (only p at));
    },
    grows,
  )

  -- ---- all groups

  module _ (joint : user.words ≡ planner.words) where
    beyond : (p : Place) → 3 + 5 * length planner.words.actions ≤ group planner.words p → meaning planner p ≡ meaning user p
    beyond (place.Knows i) past = no_knowledge planner user joint i (omega (arith, past))
    beyond (place.Pre i f) past = ap Feature (no_content planner user joint i (omega (arith, past)) (λ o. option_map_or (λ (schema : Schema). list_any (same_schema_atom f) schema.pre) o false))
    beyond (place.Add i f) past = ap Feature (no_content planner user joint i (omega (arith, past)) (λ o. option_map_or (λ (schema : Schema). list_any (same_schema_atom f) schema.add) o false))
    beyond (place.Del i f) past = ap Feature (no_content planner user joint i (omega (arith, past)) (λ o. option_map_or (λ (schema : Schema). list_any (same_schema_atom f) schema.del) o false))
    beyond (place.Cost i) past = no_content planner user joint i (omega (arith, past)) (λ o. option_map_or (λ (schema : Schema). Price schema.cost) o Nothing)
    beyond p past = absurd (omega (arith, past))

    all_told : (ds : List Difference) → IsPart planner user (λ n. n < 3 + 5 * length planner.words.actions) ds → AreDifferencesOf planner user ds
    all_told ds part = record {
      all = record {
        differ = λ p there. let d = contains-map place_of ds p there in subst (λ q. meaning planner q ≢ meaning user q) d.2 (All-contains (IsOne planner user (λ n. n < 3 + 5 * length planner.words.actions)) ds d.0 part.each d.1).differ;
        agree = λ p none.
            ⊎_elim (λ same. beyond p (omega (arith, same)))
            (λ apart. ⊎_elim (λ less. ⊎_elim (λ e. e) (λ there. absurd (none there)) (part.complete p less)) (λ more. beyond p (omega (arith, more))) apart)
            (cases_order (group planner.words p) (3 + 5 * length planner.words.actions));
        ordered = part.ordered;
      };
      each = All-weaker (IsOne planner user (λ n. n < 3 + 5 * length planner.words.actions)) (Says (meaning planner) (meaning user)) (λ d one. one.says) ds part.each;
      fit = All-weaker (IsOne planner user (λ n. n < 3 + 5 * length planner.words.actions)) (FitsWords planner.words) (λ d one. one.fits) ds part.each;
    }

    pub few_gathered : (one : Gathered) → IsGathered planner user (3 + 5 * length planner.words.actions) one → one.found ≤ 256 → AreDifferencesOf planner user one.kept × (length one.kept ≤ 256)
    few_gathered one (ds, part, counted, kept) few =
        (subst (AreDifferencesOf planner user) (sym (kept few)) (all_told ds part), omega (arith, counted, few, ap length (kept few)))

    pub many_gathered : (one : Gathered) → IsGathered planner user (3 + 5 * length planner.words.actions) one → 256 < one.found → AreTooMany planner user one.found
    many_gathered one (ds, part, counted, kept) many = record { places = places_of ds; all = (all_told ds part).all; counted = mapped ds ∙ sym counted; many = many }
      where
        mapped : (es : List Difference) → length (places_of es) ≡ length es
        mapped [] = refl
        mapped (e ∷ es) = ap suc (mapped es)
