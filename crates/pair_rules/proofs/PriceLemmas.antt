-- Whether an action has a cost after some set of differences, by the costs of its rule.
use Rattle.std.proofs.Common.{◌≡◌, ℕ, nat_eq, ◌||◌, ◌&&◌, Bool, true, false, not, cond, None, Some, is_some, List, [], ◌∙◌, ◌⊎◌, inl, inr, refl, sym, ap, subst, map, arith}
use Rattle.std.specs.Prelude.{◌↔◌, Contains, IsSome}
use Rattle.std.proofs.lemmas.Bool.{true≢false, or_cases, or_left, or_right, and_from, eqb-true, eq-eqb}
use Rattle.model_kit.specs.declared.model.Model.{Model}
use Rattle.model_kit.specs.declared.model.CostExpr.{CostExpr}
use Rattle.model_kit.specs.declared.model.CostExpr.TheVariants.{Number, Call}
use Rattle.model_kit.specs.declared.action.GroundAction.{GroundAction}
use Rattle.model_kit.specs.Places.{Place, Knows, Cost, Value, Price, meaning}
use Rattle.model_kit.specs.Runs.{is_on, worth, object_of, price_of}
use Rattle.case_kit.specs.declared.cases.When.{When}
use Rattle.case_kit.specs.declared.cases.When.TheVariants.{Always, IfTold, IfLeft}
use Rattle.case_kit.specs.declared.costs.CaseValue.{CaseValue}
use Rattle.case_kit.specs.declared.costs.CaseValue.TheVariants as values
use Rattle.case_kit.specs.declared.costs.CaseCost.{CaseCost}
use Rattle.case_kit.specs.declared.costs.CaseCost.TheVariants as costs
use Rattle.case_kit.specs.Parts.{stands_in_value, stands_in_cost, has_value, has_cost, speaks_of}
use Rattle.case_kit.specs.Sound.{is_apart, is_beside}
use Rattle.reach_kit.specs.declared.world.World.{World}
use Rattle.reach_kit.specs.Relaxed.{HasValue}
use Rattle.feature_diff.specs.declared.difference.Difference.{Difference}
use Rattle.feature_diff.specs.Differing.{place_of, places_of, AreDifferencesOf}
use Rattle.named_tables.specs.Models.{Models, after_told, HasSomeCost}
use Rattle.named_tables.specs.Tables.{IsNumber, IsWhen, IsValue, IsCostOf}
use Rattle.named_tables.proofs.CaseLemmas.{either_has}
use Rattle.named_tables.proofs.PriceLemmas.{priced_law}
use Rattle.pair_rules.specs.Made.{is_known}
use Rattle.pair_rules.specs.Ruled.{models_of}
use Rattle.pair_rules.proofs.FeatureLemmas.{differs_or_same}
use Rattle.model_kit.proofs.NumberLemmas.{number_listed, number_one}
use Rattle.mre_base.proofs.Listed.{map-contains}
use Rattle.mre_base.proofs.Tests.{not_so}

beside_is : (cost : CaseCost) (known : When) → ((k : ℕ) → speaks_of known k ≡ true → stands_in_cost cost k ≡ true → ⊥) → is_beside cost known ≡ true
beside_is cost Always apart = refl
beside_is cost (IfTold place) apart = not_so (stands_in_cost cost place) (apart place (eq-eqb place place refl))
beside_is cost (IfLeft place) apart = not_so (stands_in_cost cost place) (apart place (eq-eqb place place refl))

module _ (planner user : Model) (differences : List Difference) (all : AreDifferencesOf planner user differences) (world : World)
    (keyed : (f : ℕ) (xs : List ℕ) → Contains world.values (f, xs) ↔ (IsSome (worth (meaning planner (Value f xs))) ⊎ IsSome (worth (meaning user (Value f xs))))) where
  abbrev models : Models
  models = models_of planner user differences

  place_number : (d : Difference) (p : Place) → Contains differences d → place_of d ≡ p → (k : ℕ) × IsNumber models p k
  place_number d p among here = number_listed 1 (places_of differences) p (subst (Contains (places_of differences)) here (map-contains place_of differences d among))

  record ValueFor (objects : List ℕ) (expr : CostExpr) : Type 0 where
    value : CaseValue
    is : IsValue models objects (Price expr) value
    there : (has_value value ≡ true) ↔ HasValue world objects expr
    numbers : (k : ℕ) → stands_in_value value k ≡ true → (f : ℕ) × (xs : List ℕ) × IsNumber models (Value f xs) k

  value_for : (objects : List ℕ) (expr : CostExpr) → ValueFor objects expr
  value_for objects (Number n) = record { value = values.One (Some n); is = refl; there = (λ has. tt, λ has. refl); numbers = λ k stands. absurd (true≢false (sym stands)) }
  value_for objects (Call f args) = elim (differs_or_same planner user differences all (Value f xs)) [
    | inl (d, among, here) ↦
        let (k, is) = place_number d (Value f xs) among here in
        record {
          value = values.Two k (worth (meaning planner (Value f xs))) (worth (meaning user (Value f xs)));
          is = (is, refl, refl);
          there = (
            λ has. (keyed f xs).1 (or_cases (is_some (worth (meaning planner (Value f xs)))) (is_some (worth (meaning user (Value f xs)))) has),
            λ there. elim ((keyed f xs).0 there) [
              | inl own ↦ or_left (is_some (worth (meaning planner (Value f xs)))) (is_some (worth (meaning user (Value f xs)))) own
              | inr other ↦ or_right (is_some (worth (meaning planner (Value f xs)))) (is_some (worth (meaning user (Value f xs)))) other
            ],
          );
          numbers = λ j stands. (f, xs, subst (IsNumber models (Value f xs)) (eqb-true k j stands) is);
        }
    | inr same ↦ record {
      value = values.One (worth (meaning planner (Value f xs)));
      is = (refl, ap worth (sym same));
      there = (
        λ has. (keyed f xs).1 (inl has),
        λ there. elim ((keyed f xs).0 there) [
          | inl own ↦ own
          | inr other ↦ ap (λ c. is_some (worth c)) same ∙ other
        ],
      );
      numbers = λ k stands. absurd (true≢false (sym stands));
    }
  ]
    where
      xs : List ℕ
      xs = map (object_of objects) args

  module _ (n : ℕ) (objects : List ℕ) (own other : CostExpr) (own_is : meaning planner (Cost n) ≡ Price own) (other_is : meaning user (Cost n) ≡ Price other)
      (listed : List CostExpr) (costs_are : (cost : CostExpr) → Contains listed cost ↔ ((meaning planner (Cost n) ≡ Price cost) ⊎ (meaning user (Cost n) ≡ Price cost))) where
    abbrev action : GroundAction
    action = record { schema = n; objects = objects }

    abbrev HasListed : Type 0
    HasListed = (cost : CostExpr) × Contains listed cost × HasValue world objects cost

    record CostFor : Type 0 where
      cost : CaseCost
      is : IsCostOf models action cost
      there : (has_cost cost ≡ true) ↔ HasListed
      apart : is_apart cost ≡ true
      numbers : (k : ℕ) → stands_in_cost cost k ≡ true → IsNumber models (Knows n) k → ⊥

    no_value : (expr : CostExpr) (v : ValueFor objects expr) (p : Place) (k : ℕ) → IsNumber models p k → ((f : ℕ) (xs : List ℕ) → Value f xs ≡ p → ⊥) → stands_in_value v.value k ≡ true → ⊥
    no_value expr v p k is apart stands = let (f, xs, at) = v.numbers k stands in apart f xs (number_one (places_of differences) (Value f xs) p k at is)

    of_own : (cost : CostExpr) → (meaning planner (Cost n) ≡ Price cost) → HasValue world objects cost → HasValue world objects own
    of_own cost is has = let one : Price cost ≡ Price own = sym is ∙ own_is in let same : cost ≡ own = cc in subst (HasValue world objects) same has

    of_other : (cost : CostExpr) → (meaning user (Cost n) ≡ Price cost) → HasValue world objects cost → HasValue world objects other
    of_other cost is has = let one : Price cost ≡ Price other = sym is ∙ other_is in let same : cost ≡ other = cc in subst (HasValue world objects) same has

    value_at : Place → Type 0
    value_at p = (f : ℕ) (xs : List ℕ) → Value f xs ≡ p → ⊥

    cost_for : CostFor
    cost_for =
        let v = value_for objects own in
        let w = value_for objects other in
        elim (differs_or_same planner user differences all (Cost n)) [
          | inr same ↦ record {
            cost = costs.One v.value;
            is = (same, subst (λ c. IsValue models objects c v.value) (sym own_is) v.is);
            there = (
              λ has. (own, (costs_are own).1 (inl own_is), v.there.0 has),
              λ (cost, among, has). v.there.1 (elim ((costs_are cost).0 among) [
                | inl is ↦ of_own cost is has
                | inr is ↦ of_own cost (same ∙ is) has
              ]),
            );
            apart = refl;
            numbers = λ k stands known. no_value own v (Knows n) k known (λ f xs clash. absurd (cc)) stands;
          }
          | inl (d, among, here) ↦
              let (k, is) = place_number d (Cost n) among here in
              record {
                cost = costs.Two k v.value w.value;
                is = (is, subst (λ c. IsValue models objects c v.value) (sym own_is) v.is, subst (λ c. IsValue models objects c w.value) (sym other_is) w.is);
                there = (
                  λ has. elim (or_cases (has_value v.value) (has_value w.value) has) [
                    | inl one ↦ (own, (costs_are own).1 (inl own_is), v.there.0 one)
                    | inr two ↦ (other, (costs_are other).1 (inr other_is), w.there.0 two)
                  ],
                  λ (cost, listed_there, has). elim ((costs_are cost).0 listed_there) [
                    | inl one ↦ or_left (has_value v.value) (has_value w.value) (v.there.1 (of_own cost one has))
                    | inr two ↦ or_right (has_value v.value) (has_value w.value) (w.there.1 (of_other cost two has))
                  ],
                );
                apart = both (not_so (stands_in_value v.value k) (no_value own v (Cost n) k is (λ f xs clash. absurd (cc)))) (not_so (stands_in_value w.value k) (no_value other w (Cost n) k is (λ f xs clash. absurd (cc))));
                numbers = λ j stands known. elim (or_cases (nat_eq k j) (stands_in_value v.value j || stands_in_value w.value j) stands) [
                  | inl same ↦ clash_costs j (number_one (places_of differences) (Cost n) (Knows n) j (subst (IsNumber models (Cost n)) (eqb-true k j same) is) known)
                  | inr inside ↦ elim (or_cases (stands_in_value v.value j) (stands_in_value w.value j) inside) [
                    | inl one ↦ no_value own v (Knows n) j known (λ f xs clash. absurd (cc)) one
                    | inr two ↦ no_value other w (Knows n) j known (λ f xs clash. absurd (cc)) two
                  ]
                ];
              }
        ]
      where
        both : {a b : Bool} → a ≡ true → b ≡ true → (a && b) ≡ true
        both {a = a} {b = b} one two = and_from a b one two

        clash_costs : (j : ℕ) → Cost n ≡ Knows n → ⊥
        clash_costs j clash = absurd (cc)

    record KnownFor : Type 0 where
      known : When
      is : IsWhen models (Knows n) known
      speaks : (k : ℕ) → speaks_of known k ≡ true → IsNumber models (Knows n) k

    known_for : is_known planner user n ≡ true → KnownFor
    known_for some = by (is_on (meaning planner (Knows n))) (is_on (meaning user (Knows n))) refl refl some (differs_or_same planner user differences all (Knows n))
      where
        number_of : (d : Difference) → Contains differences d → place_of d ≡ Knows n → (k : ℕ) × IsNumber models (Knows n) k
        number_of d among here = place_number d (Knows n) among here

        by : (a b : Bool) → is_on (meaning planner (Knows n)) ≡ a → is_on (meaning user (Knows n)) ≡ b → (a || b) ≡ true
            → ((d : Difference) × Contains differences d × (place_of d ≡ Knows n)) ⊎ (meaning planner (Knows n) ≡ meaning user (Knows n)) → KnownFor
        by true true one two some where_is = record { known = Always; is = (one, two); speaks = λ k speaks. absurd (true≢false (sym speaks)) }
        by true false one two some (inr same) = absurd (true≢false (sym one ∙ ap is_on same ∙ two))
        by true false one two some (inl (d, among, here)) =
            let (k, is) = number_of d among here in
            record { known = IfTold k; is = (is, one, λ has. true≢false (sym has ∙ two)); speaks = λ j same. subst (IsNumber models (Knows n)) (eqb-true k j same) is }
        by false true one two some (inr same) = absurd (true≢false (sym two ∙ sym (ap is_on same) ∙ one))
        by false true one two some (inl (d, among, here)) =
            let (k, is) = number_of d among here in
            record { known = IfLeft k; is = (is, (λ has. true≢false (sym has ∙ one)), two); speaks = λ j same. subst (IsNumber models (Knows n)) (eqb-true k j same) is }
        by false false one two some where_is = absurd (true≢false (sym some))

    -- an action that one of the models knows has a cost after some set of differences exactly where some cost of the list has a value
    known_priced : is_known planner user n ≡ true → HasListed ↔ HasSomeCost models action
    known_priced some =
        let k = known_for some in
        let c = cost_for in
        let law = priced_law models action k.known c.cost k.is c.is c.apart (beside_is c.cost k.known (λ j speaks stands. c.numbers j stands (k.speaks j speaks))) in
        (λ has. law.0 (c.there.1 has), λ has. c.there.0 (law.1 has))

    -- an action that has a cost is known by one of the models
    cost_known : HasSomeCost models action → is_known planner user n ≡ true
    cost_known (told, some) = elim (either_has models told (Knows n) (on (is_on (after_told models told (Knows n))) some)) [
      | inl one ↦ or_left (is_on (meaning planner (Knows n))) (is_on (meaning user (Knows n))) one
      | inr two ↦ or_right (is_on (meaning planner (Knows n))) (is_on (meaning user (Knows n))) two
    ]
      where
        on : (b : Bool) → is_some (cond b (price_of (after_told models told) objects (after_told models told (Cost n))) None) ≡ true → b ≡ true
        on true has = refl
        on false has = absurd (true≢false (sym has))

    pub priced_is : ((cost : CostExpr) × Contains (cond (is_known planner user n) listed []) cost × HasValue world objects cost) ↔ HasSomeCost models action
    priced_is = (
      λ (cost, among, has). to (is_known planner user n) refl cost among has,
      λ has.
          let some = cost_known has in
          let (cost, among, valued) = (known_priced some).1 has in
          (cost, subst (λ b. Contains (cond b listed []) cost) (sym some) among, valued),
    )
      where
        to : (b : Bool) → is_known planner user n ≡ b → (cost : CostExpr) → Contains (cond b listed []) cost → HasValue world objects cost → HasSomeCost models action
        to true some cost among has = (known_priced some).0 (cost, among, has)
        to false none cost at has = absurd (omega (arith, at.1))
