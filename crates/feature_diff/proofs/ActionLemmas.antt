-- The differences on the knowledge and the cost of an action.
use Rattle.std.proofs.Common.{◌≡◌, ◌≢◌, ℕ, ◌+◌, ◌*◌, ◌<◌, ◌&&◌, zero, suc, Bool, true, false, Some, List, [], ◌∷◌, length, refl, sym, ap, subst, ◌∙◌, arith}
use Rattle.std.specs.Prelude.{◌==◌, not, nat_lt, slice_get}
use Rattle.std.specs.Bool.{Decides}
use Rattle.std.specs.List.{list_any}
use Rattle.std.specs.Option.{option_map_or}
use Rattle.std.specs.Cmp.{first_so, second_so}
use Rattle.std.specs.Cmp.Lexicographic.{pointwise, pointwise_decides}
use Rattle.std.proofs.lemmas.Bool.{true≢false, and_from}
use Rattle.std.proofs.lemmas.Bool.Decides.{nat_tests, Decides-eqb}
use Rattle.model_kit.specs.declared.vocabulary.Vocabulary.{Vocabulary}
use Rattle.model_kit.specs.declared.model.Model.{Model}
use Rattle.model_kit.specs.declared.model.Schema.{Schema}
use Rattle.model_kit.specs.declared.model.CostExpr.{CostExpr}
use Rattle.model_kit.specs.declared.model.CostExpr.TheVariants.{Number, Call}
use Rattle.model_kit.specs.Places as place
use Rattle.model_kit.specs.Places.{Place, Feature, Price, Nothing, meaning}
use Rattle.model_kit.specs.Same.{same_term}
use Rattle.model_kit.specs.Differences.{group}
use Rattle.model_kit.specs.Features.{IsCost}
use Rattle.model_kit.proofs.Alike.{same_term-decides}
use Rattle.model_kit.proofs.ModelFacts.{facts_of_model}
use Rattle.feature_diff.specs.declared.difference.Difference.TheVariants as told
use Rattle.feature_diff.specs.declared.gathered.Gathered.{Gathered}
use Rattle.feature_diff.specs.Gathering.{Grows}
use Rattle.feature_diff.specs.Parts.{GainsGroup}
use Rattle.feature_diff.specs.Telling.{same_cost}
use Rattle.feature_diff.proofs.JoinLemmas.{agreed_group, told_group}
use Rattle.mre_base.proofs.Listed.{item_at}

within_and : (i n : ℕ) (b : Bool) → i < n → (nat_lt i n && b) ≡ b
within_and i n b lt = grind (arith, nat_tests)

-- a model knows an action that it doesn't list as unknown
pub knows_means : (model : Model) (i : ℕ) (answer : Bool) → i < length model.words.actions → list_any (λ unknown. unknown == i) model.unknown ≡ answer → meaning model (place.Knows i) ≡ Feature (not answer)
knows_means model i answer lt is =
    ap Feature (within_and i (length model.schemas) (not (list_any (λ unknown. unknown == i) model.unknown)) (omega (arith, lt, (facts_of_model model).one_each)) ∙ ap not is)

pub same_cost-decides : (a b : CostExpr) → Decides (same_cost a b) (a ≡ b)
same_cost-decides (Number m) (Number n) = (λ e. ap Number ((Decides-eqb m n).0 e), λ e. (Decides-eqb m n).1 (cc))
same_cost-decides (Call f xs) (Call g ys) = (
  λ e. (λ i. Call ((Decides-eqb f g).0 (first_so (f == g) (pointwise same_term xs ys) e) i) ((pointwise_decides same_term-decides xs ys).0 (second_so (f == g) (pointwise same_term xs ys) e) i)),
  λ e. and_from (f == g) (pointwise same_term xs ys) ((Decides-eqb f g).1 (cc)) ((pointwise_decides same_term-decides xs ys).1 (cc)),
)
same_cost-decides (Number m) (Call g ys) = (λ e. absurd (true≢false (sym e)), λ e. absurd (cc))
same_cost-decides (Call f xs) (Number n) = (λ e. absurd (true≢false (sym e)), λ e. absurd (cc))

other_flag : (b c : Bool) → b ≢ c → c ≡ not b
other_flag true true apart = absurd (apart refl)
other_flag true false apart = refl
other_flag false true apart = refl
other_flag false false apart = absurd (apart refl)

on_off : (b c : Bool) → b ≢ c → Feature b ≢ Feature c
on_off b c apart e = let same : b ≡ c = cc in apart same

only_knows : (words : Vocabulary) (i : ℕ) → i < length words.actions → (p : Place) → group words p ≡ 2 + 5 * i → p ≡ place.Knows i
only_knows words i lt (place.Knows j) e = let same : j ≡ i = omega (arith, e) in ap place.Knows same
only_knows words i lt p e = absurd (omega (arith, e, lt))

only_cost : (words : Vocabulary) (i : ℕ) (p : Place) → group words p ≡ 6 + 5 * i → p ≡ place.Cost i
only_cost words i (place.Cost j) e = let same : j ≡ i = omega (arith, e) in ap place.Cost same
only_cost words i p e = absurd (omega (arith, e))

module _ (planner user : Model) (joint : user.words ≡ planner.words) (i : ℕ) (listed : i < length planner.words.actions) (one : Gathered) where
  -- ---- its knowledge

  module _ (b c : Bool) (planner_is : meaning planner (place.Knows i) ≡ Feature b) (user_is : meaning user (place.Knows i) ≡ Feature c) where
    pub knowledge_agreed : b ≡ c → GainsGroup planner user (2 + 5 * i) one one
    knowledge_agreed same =
        agreed_group planner user (2 + 5 * i) one
        (λ p at. subst (λ q. meaning planner q ≡ meaning user q) (sym (only_knows planner.words i listed p at)) (planner_is ∙ ap Feature same ∙ sym user_is))

    pub knowledge_told : b ≢ c → (two : Gathered) → Grows one two (told.Knows i b ∷ []) → GainsGroup planner user (2 + 5 * i) one two
    knowledge_told apart two grows =
        told_group planner user (2 + 5 * i) one two (told.Knows i b)
        (record {
          says = record { planner_has = planner_is; user_has = user_is ∙ ap Feature (other_flag b c apart) };
          differ = λ e. on_off b c apart (sym planner_is ∙ e ∙ user_is);
          fits = listed;
          inside = refl;
        })
        (only_knows planner.words i listed) grows

  -- ---- its cost

  module _ (s t : Schema) (at_s : slice_get planner.schemas i ≡ Some s) (at_t : slice_get user.schemas i ≡ Some t) where
    cost_means : (model : Model) (r : Schema) → slice_get model.schemas i ≡ Some r → meaning model (place.Cost i) ≡ Price r.cost
    cost_means model r at = ap (λ o. option_map_or (λ (schema : Schema). Price schema.cost) o Nothing) at

    cost_fits : (model : Model) → model.words ≡ planner.words → (r : Schema) → slice_get model.schemas i ≡ Some r → IsCost planner.words r.cost
    cost_fits model same r at =
        let own : i < length model.words.actions = subst (λ w. i < length w.actions) (sym same) listed in
        let action = item_at model.words.actions i own in
        subst (λ w. IsCost w r.cost) same (action.0.params, ((facts_of_model model).schemas_kept i r action.0 at action.1).cost_fits)

    pub cost_agreed : same_cost s.cost t.cost ≡ true → GainsGroup planner user (6 + 5 * i) one one
    cost_agreed e =
        agreed_group planner user (6 + 5 * i) one
        (λ p at.
        subst (λ q. meaning planner q ≡ meaning user q) (sym (only_cost planner.words i p at))
        (cost_means planner s at_s ∙ ap Price ((same_cost-decides s.cost t.cost).0 e) ∙ sym (cost_means user t at_t)))

    pub cost_told : same_cost s.cost t.cost ≡ false → (a b : CostExpr) → a ≡ s.cost → b ≡ t.cost → (two : Gathered) → Grows one two (told.Cost i a b ∷ []) → GainsGroup planner user (6 + 5 * i) one two
    cost_told e a b a_is b_is two grows =
        told_group planner user (6 + 5 * i) one two (told.Cost i a b)
        (record {
          says = record { planner_has = cost_means planner s at_s ∙ ap Price (sym a_is); user_has = cost_means user t at_t ∙ ap Price (sym b_is) };
          differ = λ f.
              let prices : Price s.cost ≡ Price t.cost = sym (cost_means planner s at_s) ∙ f ∙ cost_means user t at_t in
              let same : s.cost ≡ t.cost = cc in
              true≢false (sym ((same_cost-decides s.cost t.cost).1 same) ∙ e);
          fits = (listed, subst (IsCost planner.words) (sym a_is) (cost_fits planner refl s at_s), subst (IsCost planner.words) (sym b_is) (cost_fits user joint t at_t));
          inside = refl;
        })
        (only_cost planner.words i) grows
