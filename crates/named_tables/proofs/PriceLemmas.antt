-- The cost that a table gives an action is its cost after each set of differences.
use Rattle.std.proofs.Common.{◌≡◌, ℕ, Bool, true, false, cond, is_some, List, Option, None, refl, sym, ap, ◌∙◌, map}
use Rattle.std.specs.FinSet as set
use Rattle.cube_kit.specs.Cubes.{Told}
use Rattle.model_kit.specs.declared.action.GroundAction.{GroundAction}
use Rattle.model_kit.specs.declared.model.CostExpr.TheVariants.{Number, Call}
use Rattle.model_kit.specs.Places.{Place, Knows, Cost, Value, Content, Feature, Price, Worth, Nothing}
use Rattle.model_kit.specs.Differences.{is_told}
use Rattle.model_kit.specs.Runs.{object_of, worth, price_of, cost_of}
use Rattle.case_kit.specs.declared.cases.When.{When}
use Rattle.case_kit.specs.declared.costs.CaseValue.{CaseValue}
use Rattle.case_kit.specs.declared.costs.CaseValue.TheVariants as values
use Rattle.case_kit.specs.declared.costs.CaseCost.{CaseCost}
use Rattle.case_kit.specs.declared.costs.CaseCost.TheVariants as costs
use Rattle.case_kit.specs.Members.{value_after, cost_after, cost_if_known}
use Rattle.case_kit.proofs.EverLemmas.{ever_there, ever_back}
use Rattle.named_tables.specs.Models.{Models, after_told}
use Rattle.named_tables.specs.Tables.{IsWhen, IsWorth, IsValue, IsCostOf}
use Rattle.named_tables.specs.Laws.{PricedLaw}
use Rattle.named_tables.proofs.CaseLemmas.{told_by, when_holds}

module _ (models : Models) (told : Told) where
  abbrev is_now_told : Place → Bool
  is_now_told place = is_told 1 models.places (set.contains told) place

  worth_in : (b : Bool) (p u : Content) → worth (cond b p u) ≡ cond b (worth p) (worth u)
  worth_in true p u = refl
  worth_in false p u = refl

  same_either : (b : Bool) (o : Option ℕ) → cond b o o ≡ o
  same_either true o = refl
  same_either false o = refl

  worth_is : (place : Place) (value : CaseValue) → IsWorth models place value → worth (after_told models told place) ≡ value_after told value
  worth_is place (values.One value) (planner, user) =
      worth_in (is_now_told place) (models.planner place) (models.user place) ∙ (λ i. cond (is_now_told place) (planner i) (user i)) ∙ same_either (is_now_told place) value
  worth_is place (values.Two k with without) (is, planner, user) =
      worth_in (is_now_told place) (models.planner place) (models.user place) ∙ (λ i. cond (told_by models told place k is i) (planner i) (user i))

  value_is : (objects : List ℕ) (content : Content) (value : CaseValue) → IsValue models objects content value → price_of (after_told models told) objects content ≡ value_after told value
  value_is objects (Price (Number n)) value is = ap (value_after told) (sym is)
  value_is objects (Price (Call function args)) value is = worth_is (Value function (map (object_of objects) args)) value is
  value_is objects (Feature on) value is = ap (value_after told) (sym is)
  value_is objects (Worth number) value is = ap (value_after told) (sym is)
  value_is objects Nothing value is = ap (value_after told) (sym is)

  price_in : (objects : List ℕ) (b : Bool) (p u : Content) → price_of (after_told models told) objects (cond b p u) ≡ cond b (price_of (after_told models told) objects p) (price_of (after_told models told) objects u)
  price_in objects true p u = refl
  price_in objects false p u = refl

  same_content : (b : Bool) (p u : Content) → p ≡ u → cond b p u ≡ p
  same_content true p u e = refl
  same_content false p u e = sym e

  price_is : (action : GroundAction) (cost : CaseCost) → IsCostOf models action cost → price_of (after_told models told) action.objects (after_told models told (Cost action.schema)) ≡ cost_after told cost
  price_is action (costs.One value) (same, is) =
      ap (price_of (after_told models told) action.objects) (same_content (is_now_told (Cost action.schema)) (models.planner (Cost action.schema)) (models.user (Cost action.schema)) same)
      ∙ value_is action.objects (models.planner (Cost action.schema)) value is
  price_is action (costs.Two k with without) (is, planner, user) =
      price_in action.objects (is_now_told (Cost action.schema)) (models.planner (Cost action.schema)) (models.user (Cost action.schema))
      ∙ (λ i. cond (told_by models told (Cost action.schema) k is i) (value_is action.objects (models.planner (Cost action.schema)) with planner i) (value_is action.objects (models.user (Cost action.schema)) without user i))

  pub cost_is : (action : GroundAction) (known : When) (cost : CaseCost) → IsWhen models (Knows action.schema) known → IsCostOf models action cost → cost_of (after_told models told) action ≡ cost_if_known told known cost
  cost_is action known cost when is = λ i. cond (when_holds models told (Knows action.schema) known when i) (price_is action cost is i) None

pub priced_law : PricedLaw
priced_law models action known cost when is apart beside = (
  λ has. let (told, some) = ever_there cost known apart beside has in (told, ap is_some (cost_is models told action known cost when is) ∙ some),
  λ (told, some). ever_back cost known apart beside (told, sym (ap is_some (cost_is models told action known cost when is)) ∙ some),
)
