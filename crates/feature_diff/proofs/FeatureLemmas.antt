-- The differences of two lists of features.
use Rattle.std.proofs.Common.{◌≡◌, ◌≢◌, ℕ, Bool, true, false, None, List, refl, sym, ap, subst, ◌∙◌, ⊎_elim, inl, inr}
use Rattle.std.specs.Prelude.{◌⊎◌, not, Contains}
use Rattle.std.specs.Bool.{Decides}
use Rattle.std.specs.List.{list_any}
use Rattle.std.proofs.lemmas.Bool.{true≢false, cases_Bool, false_from_ne_true}
use Rattle.model_kit.specs.declared.model.Model.{Model}
use Rattle.model_kit.specs.Places.{Place, Feature, meaning}
use Rattle.model_kit.specs.Differences.{group}
use Rattle.model_kit.specs.Printed.{printed}
use Rattle.model_kit.proofs.StepLemmas.{listed_from_any, any_from_listed}
use Rattle.feature_diff.specs.declared.difference.Difference.{Difference}
use Rattle.feature_diff.specs.Differing.{place_of, planner_content, user_content, FitsWords}
use Rattle.feature_diff.specs.Parts.{IsOne}
use Rattle.feature_diff.proofs.GroupLemmas.{Tells}

on_not_off : (has : Bool) → Feature has ≢ Feature (not has)
on_not_off true e = let same : true ≡ false = cc in true≢false same
on_not_off false e = let same : false ≡ true = cc in true≢false (sym same)

module _ (planner user : Model) (g : ℕ) {X : Type 0} (same : X → X → Bool) (decides : (a b : X) → Decides (same a b) (a ≡ b))
    (form : X → List ℕ) (place : X → Place) (alone : X → Bool → Difference) (ps us : List X) where
  -- the lists have the features that the models have at some places
  pub record AreFeatures : Type 0 where
    pub printed_as : (x : X) → printed planner.words (place x) ≡ form x
    pub in_group : (x : X) → group planner.words (place x) ≡ g
    pub placed : (x : X) (has : Bool) → place_of (alone x has) ≡ place x
    pub planner_means : (x : X) → meaning planner (place x) ≡ Feature (list_any (same x) ps)
    pub user_means : (x : X) → meaning user (place x) ≡ Feature (list_any (same x) us)
    pub planner_content_is : (x : X) (has : Bool) → planner_content (alone x has) ≡ Feature has
    pub user_content_is : (x : X) (has : Bool) → user_content (alone x has) ≡ Feature (not has)
    pub fits : (x : X) (has : Bool) → Contains ps x ⊎ Contains us x → FitsWords planner.words (alone x has)
    pub apart : (x y : X) → Contains ps x ⊎ Contains us x → Contains ps y ⊎ Contains us y → form x ≡ form y → x ≡ y
    pub places : (p : Place) → group planner.words p ≡ g → (meaning planner p ≡ meaning user p) ⊎ ((x : X) × (p ≡ place x))

  module _ (features : AreFeatures) where
    one_feature : (x : X) (has : Bool) → Contains ps x ⊎ Contains us x → list_any (same x) ps ≡ has → list_any (same x) us ≡ not has → IsOne planner user (λ n. n ≡ g) (alone x has)
    one_feature x has there here away =
        let at : place_of (alone x has) ≡ place x = features.placed x has in
        let first : meaning planner (place_of (alone x has)) ≡ Feature has = ap (meaning planner) at ∙ features.planner_means x ∙ ap Feature here in
        let second : meaning user (place_of (alone x has)) ≡ Feature (not has) = ap (meaning user) at ∙ features.user_means x ∙ ap Feature away in
        record {
          says = record { planner_has = first ∙ sym (features.planner_content_is x has); user_has = second ∙ sym (features.user_content_is x has) };
          differ = λ e. on_not_off has (sym first ∙ e ∙ second);
          fits = features.fits x has there;
          inside = ap (group planner.words) at ∙ features.in_group x;
        }

    unlisted : (x : X) (xs : List X) → ((y : X) → Contains xs y → form y ≢ form x) → list_any (same x) xs ≡ false
    unlisted x xs none = false_from_ne_true (list_any (same x) xs) (λ e. none x (listed_from_any same decides x xs e) refl)

    both_have : (x y : X) → Contains ps x → Contains us y → form x ≡ form y → meaning planner (place x) ≡ meaning user (place x)
    both_have x y in_x in_y e =
        let is : x ≡ y = features.apart x y (inl in_x) (inr in_y) e in
        features.planner_means x
        ∙ ap Feature (any_from_listed same decides x ps in_x ∙ sym (any_from_listed same decides x us (subst (Contains us) (sym is) in_y)))
        ∙ sym (features.user_means x)

    either_has : (x : X) → (meaning planner (place x) ≡ meaning user (place x)) ⊎ (Contains ps x ⊎ Contains us x)
    either_has x =
        ⊎_elim (λ here. inr (inl (listed_from_any same decides x ps here)))
        (λ no_p.
        ⊎_elim (λ here. inr (inr (listed_from_any same decides x us here)))
        (λ no_u. inl (features.planner_means x ∙ ap Feature (no_p ∙ sym no_u) ∙ sym (features.user_means x)))
        (cases_Bool (list_any (same x) us)))
        (cases_Bool (list_any (same x) ps))

    pub feature_tells : Tells planner user g form place alone (λ x y. None) ps us
    feature_tells = record {
      printed_as = features.printed_as;
      in_group = features.in_group;
      placed = features.placed;
      planner_alone = λ x there none. one_feature x true (inl there) (any_from_listed same decides x ps there) (unlisted x us none);
      user_alone = λ y there none. one_feature y false (inr there) (unlisted y ps none) (any_from_listed same decides y us there);
      in_both = both_have;
      apart = λ x y in_x in_y e. ap place (features.apart x y in_x in_y e);
      others = λ p in_p.
          ⊎_elim (λ agree. inl agree)
          (λ at.
          ⊎_elim (λ agree. inl (subst (λ q. meaning planner q ≡ meaning user q) (sym at.1) agree)) (λ there. inr (at.0, there, at.1)) (either_has at.0))
          (features.places p in_p);
    }
