-- What two models have of one kind, and when it is there: the loops over their lists, and what the features are.
use Rattle.std.proofs.Common.{◌≡◌, ℕ, ◌+◌, true, Option, None, Some, List, ◌∙◌, inl, inr, refl, sym, ap, subst, map}
use Rattle.std.specs.Prelude.{◌↔◌, ◌≢◌, Contains}
use Rattle.std.specs.List.{filter_map}
use Rattle.std.specs.Option.{option_map}
use Rattle.std.proofs.lemmas.Bool.{true≢false}
use Rattle.std.proofs.lemmas.List.Elements.{Contains-append_left, Contains-append_right, Contains-append_cases}
use Rattle.model_kit.specs.declared.model.Model.{Model}
use Rattle.model_kit.specs.declared.atom.GroundAtom.{GroundAtom}
use Rattle.model_kit.specs.Differences.{number_from}
use Rattle.model_kit.specs.Places.{Place, Content, Feature, Price, Worth, Nothing, meaning}
use Rattle.model_kit.specs.Runs.{Has, is_on}
use Rattle.model_kit.proofs.NumberLemmas.{number_listed, number_at, number_next}
use Rattle.case_kit.specs.declared.cases.When.{When}
use Rattle.case_kit.specs.declared.cases.When.TheVariants.{IfLeft}
use Rattle.feature_diff.specs.declared.difference.Difference.{Difference}
use Rattle.feature_diff.specs.Differing.{places_of, place_of, AreDifferencesOf}
use Rattle.named_tables.specs.Models.{Models}
use Rattle.named_tables.specs.Tables.{IsWhen, AreCases}
use Rattle.pair_rules.specs.Ruled.{models_of}
use Rattle.pair_rules.proofs.PartLemmas.{picks_have, picks_keep}
use Rattle.pair_rules.proofs.FeatureLemmas.{differs_or_same}
use Rattle.pair_tables.specs.Featured.{planner_when, planner_feature, user_feature, features, AreFeatures, case_of}
use Rattle.mre_base.proofs.Listed.{item_contained, map-contains, contains-map}

-- a content that is on is a feature
on_content : (content : Content) → is_on content ≡ true → content ≡ Feature true
on_content (Feature b) on = ap Feature on
on_content (Price cost) on = absurd (true≢false (sym on))
on_content (Worth value) on = absurd (true≢false (sym on))
on_content Nothing on = absurd (true≢false (sym on))

module _ (planner user : Model) (differences : List Difference) (all : AreDifferencesOf planner user differences) where
  abbrev models : Models
  models = models_of planner user differences

  abbrev number_of : Place → Option ℕ
  number_of = number_from 1 (places_of differences)

  -- where there is a number the models differ, and else they agree
  pub differ_at : (p : Place) (n : ℕ) → number_of p ≡ Some n → meaning planner p ≢ meaning user p
  differ_at p n is = let (j, far, at) = number_at 1 (places_of differences) p n is in all.all.differ p (item_contained (places_of differences) j p at)

  pub agree_at : (p : Place) → number_of p ≡ None → meaning planner p ≡ meaning user p
  agree_at p none = elim (differs_or_same planner user differences all p) [
    | inr same ↦ same
    | inl (d, among, here) ↦
        let (n, is) = number_listed 1 (places_of differences) p (subst (Contains (places_of differences)) here (map-contains place_of differences d among)) in
        let no : None ≡ Some n = sym none ∙ is in
        absurd (cc)
  ]

  -- where they differ not both have the feature
  pub not_both : (p : Place) (n : ℕ) → number_of p ≡ Some n → Has (meaning planner) p → Has (meaning user) p → ⊥
  not_both p n is own other = differ_at p n is (on_content (meaning planner p) own ∙ sym (on_content (meaning user p) other))

  pub planner_when_is : (p : Place) (o : Option ℕ) → number_of p ≡ o → Has (meaning planner) p → IsWhen models p (planner_when o)
  planner_when_is p None none own = (own, sym (ap is_on (agree_at p none)) ∙ own)
  planner_when_is p (Some n) is own = (is, own, λ other. not_both p n is own other)

  pub user_when_is : (p : Place) (n : ℕ) → number_of p ≡ Some n → Has (meaning user) p → IsWhen models p (IfLeft n)
  user_when_is p n is other = (is, λ own. not_both p n is own other, other)

  module _ {F : Type 0} (place : F → Place) (own other : List F)
      (own_is : (f : F) → Contains own f ↔ Has (meaning planner) (place f)) (other_is : (f : F) → Contains other f ↔ Has (meaning user) (place f)) where
    abbrev at : F → Option ℕ
    at f = number_of (place f)

    own_when : (feature : F × When) → Contains (map (planner_feature at) own) feature → IsWhen models (place feature.0) feature.1
    own_when feature there =
        let (f, among, is) = contains-map (planner_feature at) own feature there in
        subst (λ (x : F × When). IsWhen models (place x.0) x.1) is (planner_when_is (place f) (at f) refl ((own_is f).0 among))

    given : (f : F) (o : Option ℕ) (feature : F × When) → option_map (λ n. (f, IfLeft n)) o ≡ Some feature → (n : ℕ) × (o ≡ Some n) × (◌≡◌ {A = F × When} (f, IfLeft n) feature)
    given f None feature is = absurd (cc)
    given f (Some n) feature is = let same : ◌≡◌ {A = F × When} (f, IfLeft n) feature = cc in (n, refl, same)

    other_when : (feature : F × When) → Contains (filter_map (user_feature at) other) feature → IsWhen models (place feature.0) feature.1
    other_when feature there =
        let (f, among, picked) = picks_have (user_feature at) other feature there in
        let (n, is, same) = given f (at f) feature picked in
        subst (λ (x : F × When). IsWhen models (place x.0) x.1) same (user_when_is (place f) n is ((other_is f).0 among))

    pub are_features : AreFeatures models F place (features at own other)
    are_features = record {
      each = λ feature there. elim (Contains-append_cases (map (planner_feature at) own) (filter_map (user_feature at) other) feature there) [
        | inl mine ↦ own_when feature mine
        | inr theirs ↦ other_when feature theirs
      ];
      all = λ f has. elim has [
        | inl mine ↦ from_own f mine
        | inr theirs ↦ from_other f (at f) refl theirs
      ];
    }
      where
        from_own : (f : F) → Has (meaning planner) (place f) → (when : When) × Contains (features at own other) (f, when)
        from_own f mine =
            (planner_when (at f), Contains-append_left (map (planner_feature at) own) (filter_map (user_feature at) other) (planner_feature at f) (map-contains (planner_feature at) own f ((own_is f).1 mine)))

        from_other : (f : F) (o : Option ℕ) → at f ≡ o → Has (meaning user) (place f) → (when : When) × Contains (features at own other) (f, when)
        from_other f None none theirs = from_own f (ap is_on (agree_at (place f) none) ∙ theirs)
        from_other f (Some n) is theirs = (
          IfLeft n,
          Contains-append_right (map (planner_feature at) own) (filter_map (user_feature at) other) (f, IfLeft n)
              (picks_keep (user_feature at) other f (f, IfLeft n) ((other_is f).1 theirs) (ap (option_map (λ n. (f, IfLeft n))) is)),
        )

-- features with the numbers of their atoms are cases
pub are_cases : (models : Models) (number : GroundAtom → ℕ) (F : Type 0) (place : F → Place) (atom : F → GroundAtom) (list : List (F × When)) → AreFeatures models F place list
    → AreCases models number F place atom (map (case_of number atom) list)
are_cases models number F place atom list are = record {
  each = λ case there.
      let (feature, among, is) = contains-map (case_of number atom) list case there in
      (feature.0, (ap (λ c. c.atom) is, subst (IsWhen models (place feature.0)) (ap (λ c. c.when) is) (are.each feature among)));
  all = λ f has. let (when, among) = are.all f has in (case_of number atom (f, when), map-contains (case_of number atom) list (f, when) among, (refl, are.each (f, when) among));
}

-- the number of a place, by the place of its difference
pub number_is : (places : List Place) (p : Place) (o : Option ℕ) → o ≡ number_from 0 places p → option_map (λ n. n + 1) o ≡ number_from 1 places p
number_is places p o is = ap (option_map (λ n. n + 1)) is ∙ sym (number_next 0 places p)

-- a feature of the user's list, by the number of the difference on it
module _ {F : Type 0} (at : F → Option ℕ) (f : F) where
  pub left_there : (n : ℕ) → at f ≡ Some n → user_feature at f ≡ Some (f, IfLeft n)
  left_there n is = ap (option_map (λ k. (f, IfLeft k))) is

  pub left_nowhere : at f ≡ None → user_feature at f ≡ None
  left_nowhere is = ap (option_map (λ k. (f, IfLeft k))) is
