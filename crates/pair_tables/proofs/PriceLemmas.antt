-- What ground actions cost in two models, by the differences on costs and values.
use Rattle.std.proofs.Common.{◌≡◌, ℕ, ◌+◌, Option, None, Some, List, length, ◌∙◌, sym, ap, subst, arith}
use Rattle.std.specs.Prelude.{slice_get}
use Rattle.std.specs.Option.{option_map, option_map_or}
use Rattle.std.proofs.lemmas.Option.{slice_get-map}
use Rattle.std.proofs.lemmas.List.Elements.{All-contains}
use Rattle.reach_kit.specs.Relaxed.{IsPlaced}
use Rattle.model_kit.specs.declared.model.Model.{Model}
use Rattle.model_kit.specs.declared.model.Schema.{Schema}
use Rattle.model_kit.specs.declared.model.CostExpr.{CostExpr}
use Rattle.model_kit.specs.declared.model.CostExpr.TheVariants.{Number, Call}
use Rattle.model_kit.specs.declared.action.GroundAction.{GroundAction}
use Rattle.model_kit.specs.Differences.{number_from}
use Rattle.model_kit.specs.Places as place
use Rattle.model_kit.specs.Places.{Place, Price, Nothing, meaning, value_of}
use Rattle.model_kit.specs.Runs.{worth}
use Rattle.model_kit.specs.Vocabulary.{IsGroundAction}
use Rattle.model_kit.proofs.ActionLemmas.{cost_placed}
use Rattle.model_kit.proofs.NumberLemmas.{number_at}
use Rattle.case_kit.specs.declared.costs.CaseValue.{CaseValue}
use Rattle.case_kit.specs.declared.costs.CaseValue.TheVariants as values
use Rattle.case_kit.specs.declared.costs.CaseCost.TheVariants as costs
use Rattle.feature_diff.specs.declared.difference.Difference.{Difference}
use Rattle.feature_diff.specs.declared.difference.Difference.TheVariants.{Init, Goal, Knows, Pre, Add, Del, Cost, Value}
use Rattle.feature_diff.specs.Differing.{place_of, places_of, Says, AreDifferencesOf}
use Rattle.named_tables.specs.Models.{Models}
use Rattle.named_tables.specs.Tables.{IsNumber, IsWorth, IsValue, IsCostOf}
use Rattle.pair_rules.specs.Ruled.{models_of}
use Rattle.pair_tables.specs.Pricing.{worths_of}
use Rattle.pair_tables.proofs.FeatureLemmas.{agree_at, number_is}
use Rattle.mre_base.proofs.Listed.{item_contained}
use Rattle.mre_base.proofs.Options.{one_item}

module _ (planner user : Model) (differences : List Difference) (all : AreDifferencesOf planner user differences) where
  abbrev models : Models
  models = models_of planner user differences

  module _ (f : ℕ) (xs : List ℕ) where
    worths_are : (d : Difference) (n : ℕ) → Says (meaning planner) (meaning user) d → place_of d ≡ place.Value f xs → IsNumber models (place.Value f xs) n → IsWorth models (place.Value f xs) (worths_of d n)
    worths_are (Value g ys p u) n says is number =
        (number, ap worth (ap (meaning planner) (sym is) ∙ says.planner_has), ap worth (ap (meaning user) (sym is) ∙ says.user_has))
    worths_are (Init a has) n says is number = absurd (cc)
    worths_are (Goal a has) n says is number = absurd (cc)
    worths_are (Knows k has) n says is number = absurd (cc)
    worths_are (Pre k a has) n says is number = absurd (cc)
    worths_are (Add k a has) n says is number = absurd (cc)
    worths_are (Del k a has) n says is number = absurd (cc)
    worths_are (Cost k p u) n says is number = absurd (cc)

    module _ (o : Option ℕ) (found : o ≡ number_from 0 (places_of differences) (place.Value f xs)) where
      pub worth_told : (at : ℕ) → o ≡ Some at → (d : Difference) → slice_get differences at ≡ Some d → IsWorth models (place.Value f xs) (worths_of d (at + 1))
      worth_told at some d here =
          let (j, far, stands) = number_at 0 (places_of differences) (place.Value f xs) at (sym found ∙ some) in
          let same : at ≡ j = omega (arith, far) in
          let there : slice_get (places_of differences) at ≡ Some (place.Value f xs) = ap (slice_get (places_of differences)) same ∙ stands in
          let mapped : slice_get (places_of differences) at ≡ Some (place_of d) = slice_get-map place_of differences at ∙ ap (option_map place_of) here in
          worths_are d (at + 1) (All-contains (Says (meaning planner) (meaning user)) differences d all.each (item_contained differences at d here))
          (one_item (slice_get (places_of differences) at) (place_of d) (place.Value f xs) mapped there)
          (sym (number_is (places_of differences) (place.Value f xs) o found) ∙ ap (option_map (λ n. n + 1)) some)

      pub worth_same : o ≡ None → (v : Option ℕ) → v ≡ value_of planner.values f xs → IsWorth models (place.Value f xs) (values.One v)
      worth_same none v is =
          let number : number_from 1 (places_of differences) (place.Value f xs) ≡ None = sym (number_is (places_of differences) (place.Value f xs) o found) ∙ ap (option_map (λ n. n + 1)) none in
          (sym is, sym (ap worth (agree_at planner user differences all (place.Value f xs) number)) ∙ sym is)

  cost_is : (model : Model) (n : ℕ) (schema : Schema) → slice_get model.schemas n ≡ Some schema → meaning model (place.Cost n) ≡ Price schema.cost
  cost_is model n schema at = ap (λ o. option_map_or (λ s. Price s.cost) o Nothing) at

  module _ (action : GroundAction) (one : Schema) (one_at : slice_get planner.schemas action.schema ≡ Some one) (o : Option ℕ) (found : o ≡ number_from 1 (places_of differences) (place.Cost action.schema))
      (told : CaseValue) (told_is : IsValue models action.objects (Price one.cost) told) where
    pub cost_same : o ≡ None → IsCostOf models action (costs.One told)
    cost_same none =
        (agree_at planner user differences all (place.Cost action.schema) (sym found ∙ none), subst (λ c. IsValue models action.objects c told) (sym (cost_is planner action.schema one one_at)) told_is)

    pub cost_two : (n : ℕ) → o ≡ Some n → (two : Schema) → slice_get user.schemas action.schema ≡ Some two → (left : CaseValue) → IsValue models action.objects (Price two.cost) left → IsCostOf models action (costs.Two n told left)
    cost_two n some two two_at left left_is = (
      sym found ∙ some,
      subst (λ c. IsValue models action.objects c told) (sym (cost_is planner action.schema one one_at)) told_is,
      subst (λ c. IsValue models action.objects c left) (sym (cost_is user action.schema two two_at)) left_is,
    )

-- the parameters of an action's cost have their objects
module _ (model : Model) (action : GroundAction) (fits : IsGroundAction model.words action) (schema : Schema) (at : slice_get model.schemas action.schema ≡ Some schema) where
  pub placed_by : (cost : CostExpr) → schema.cost ≡ cost → IsPlaced (length action.objects) cost
  placed_by (Number n) is = tt
  placed_by (Call f args) is = cost_placed model action fits schema at f args is
