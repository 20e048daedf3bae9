-- What the lists of a rule and of a world have, by the features of the two models.
use Rattle.std.proofs.Common.{◌≡◌, ℕ, nat_eq, ◌&&◌, Bool, true, false, not, Option, None, Some, List, [], ◌∷◌, ◌++◌, ◌∙◌, ◌⊎◌, inl, inr, refl, sym, ap, subst, map, cond, arith}
use Rattle.std.specs.Prelude.{◌↔◌, Contains, IsSome, is_some, slice_get}
use Rattle.std.specs.List.{list_any, filter_map}
use Rattle.std.specs.Option.{option_map_or}
use Rattle.std.proofs.lemmas.Bool.{cases_Bool, true≢false, and_parts, and_from, eqb-true, eq-eqb}
use Rattle.std.proofs.lemmas.List.Elements.{Contains-append_left, Contains-append_right, Contains-append_cases, All-contains}
use Rattle.model_kit.specs.declared.model.Model.{Model}
use Rattle.model_kit.specs.declared.model.Schema.{Schema}
use Rattle.model_kit.specs.declared.model.CostExpr.{CostExpr}
use Rattle.model_kit.specs.declared.atom.SchemaAtom.{SchemaAtom}
use Rattle.model_kit.specs.declared.atom.GroundAtom.{GroundAtom}
use Rattle.model_kit.specs.Same.{same_atom, same_schema_atom, same_numbers}
use Rattle.model_kit.specs.Places as place
use Rattle.model_kit.specs.Places.{Place, Content, Feature, Price, Worth, Nothing, meaning, same_place, value_of}
use Rattle.model_kit.specs.Runs.{Has, is_on, worth}
use Rattle.model_kit.proofs.Alike.{same_atom-decides, same_schema_atom-decides, same_numbers-decides}
use Rattle.model_kit.proofs.PlaceLemmas.{listed_place, unlisted_place}
use Rattle.model_kit.proofs.NumberLemmas.{number_some}
use Rattle.model_kit.proofs.StepLemmas.{listed_from_any, any_from_listed}
use Rattle.mre_base.proofs.Loops.{contains_cases, contains_here, contains_later}
use Rattle.feature_diff.specs.declared.difference.Difference.{Difference}
use Rattle.feature_diff.specs.declared.difference.Difference.TheVariants.{Init, Goal, Knows, Pre, Add, Del, Cost, Value}
use Rattle.feature_diff.specs.Differing.{place_of, places_of, planner_content, user_content, Says, AreDifferencesOf}
use Rattle.pair_rules.specs.Made.{is_pre, user_add, user_init, user_cost, user_key, key_of, needs_of, adds_of, costs_of}
use Rattle.pair_rules.proofs.PartLemmas.{filter_has, filter_keeps, picks_have, picks_keep}
use Rattle.mre_base.proofs.Listed.{contains-map}
use Rattle.mre_base.proofs.Tests.{not_false}

-- a feature that is on
on_is : (content : Content) (b : Bool) → content ≡ Feature b → is_on content ≡ b
on_is content b is = ap is_on is

-- what a difference says of a feature that only the user's model has
pub record IsAlone (p : Place) (d : Difference) : Type 0 where
  pub at : place_of d ≡ p
  pub planner_lacks : planner_content d ≡ Feature false
  pub user_has : user_content d ≡ Feature true

alone_init : (d : Difference) (atom : GroundAtom) → user_init d ≡ Some atom → IsAlone (place.Init atom) d
alone_init (Init a false) atom given = let same : a ≡ atom = cc in record { at = ap place.Init same; planner_lacks = refl; user_has = refl }
alone_init (Init a true) atom given = absurd (cc)
alone_init (Goal a has) atom given = absurd (cc)
alone_init (Knows n has) atom given = absurd (cc)
alone_init (Pre n a has) atom given = absurd (cc)
alone_init (Add n a has) atom given = absurd (cc)
alone_init (Del n a has) atom given = absurd (cc)
alone_init (Cost n p u) atom given = absurd (cc)
alone_init (Value f xs p u) atom given = absurd (cc)

side_init : (d : Difference) (atom : GroundAtom) → place_of d ≡ place.Init atom → (user_init d ≡ Some atom) ⊎ (planner_content d ≡ Feature true)
side_init (Init a false) atom is = let same : a ≡ atom = cc in inl (ap Some same)
side_init (Init a true) atom is = inr refl
side_init (Goal a has) atom is = absurd (cc)
side_init (Knows n has) atom is = absurd (cc)
side_init (Pre n a has) atom is = absurd (cc)
side_init (Add n a has) atom is = absurd (cc)
side_init (Del n a has) atom is = absurd (cc)
side_init (Cost n p u) atom is = absurd (cc)
side_init (Value f xs p u) atom is = absurd (cc)

module _ (action : ℕ) where
  given_add : (b : Bool) (at : ℕ) (a atom : SchemaAtom) → (at ≡ action → IsAlone (place.Add action a) (Add at a false)) → (b ≡ true → at ≡ action) → cond b (Some a) None ≡ Some atom → IsAlone (place.Add action atom) (Add at a false)
  given_add true at a atom alone same given = let one : a ≡ atom = cc in subst (λ f. IsAlone (place.Add action f) (Add at a false)) one (alone (same refl))
  given_add false at a atom alone same given = absurd (cc)

  alone_add : (d : Difference) (atom : SchemaAtom) → user_add action d ≡ Some atom → IsAlone (place.Add action atom) d
  alone_add (Add at a false) atom given =
      given_add (nat_eq at action) at a atom (λ same. record { at = ap (λ n. place.Add n a) same; planner_lacks = refl; user_has = refl }) (eqb-true at action) given
  alone_add (Add at a true) atom given = absurd (cc)
  alone_add (Init a has) atom given = absurd (cc)
  alone_add (Goal a has) atom given = absurd (cc)
  alone_add (Knows n has) atom given = absurd (cc)
  alone_add (Pre n a has) atom given = absurd (cc)
  alone_add (Del n a has) atom given = absurd (cc)
  alone_add (Cost n p u) atom given = absurd (cc)
  alone_add (Value f xs p u) atom given = absurd (cc)

  side_add : (d : Difference) (atom : SchemaAtom) → place_of d ≡ place.Add action atom → (user_add action d ≡ Some atom) ⊎ (planner_content d ≡ Feature true)
  side_add (Add at a false) atom is =
      let here : at ≡ action = cc in
      let same : a ≡ atom = cc in
      inl (ap (λ b. cond b (Some a) None) (eq-eqb at action here) ∙ ap Some same)
  side_add (Add at a true) atom is = inr refl
  side_add (Init a has) atom is = absurd (cc)
  side_add (Goal a has) atom is = absurd (cc)
  side_add (Knows n has) atom is = absurd (cc)
  side_add (Pre n a has) atom is = absurd (cc)
  side_add (Del n a has) atom is = absurd (cc)
  side_add (Cost n p u) atom is = absurd (cc)
  side_add (Value f xs p u) atom is = absurd (cc)

  -- the cost that a difference gives the user's model
  given_cost : (b : Bool) (at : ℕ) (c cost : CostExpr) → (b ≡ true → at ≡ action) → cond b (Some c) None ≡ Some cost → (at ≡ action) × (c ≡ cost)
  given_cost true at c cost same given = let one : c ≡ cost = cc in (same refl, one)
  given_cost false at c cost same given = absurd (cc)

  user_costs : (d : Difference) (cost : CostExpr) → user_cost action d ≡ Some cost → (place_of d ≡ place.Cost action) × (user_content d ≡ Price cost)
  user_costs (Cost at p u) cost given = let (here, same) = given_cost (nat_eq at action) at u cost (eqb-true at action) given in (ap place.Cost here, ap Price same)
  user_costs (Init a has) cost given = absurd (cc)
  user_costs (Goal a has) cost given = absurd (cc)
  user_costs (Knows n has) cost given = absurd (cc)
  user_costs (Pre n a has) cost given = absurd (cc)
  user_costs (Add n a has) cost given = absurd (cc)
  user_costs (Del n a has) cost given = absurd (cc)
  user_costs (Value f xs p u) cost given = absurd (cc)

  cost_there : (d : Difference) (cost : CostExpr) → place_of d ≡ place.Cost action → user_content d ≡ Price cost → user_cost action d ≡ Some cost
  cost_there (Cost at p u) cost is content =
      let here : at ≡ action = cc in
      let same : u ≡ cost = cc in
      ap (λ b. cond b (Some u) None) (eq-eqb at action here) ∙ ap Some same
  cost_there (Init a has) cost is content = absurd (cc)
  cost_there (Goal a has) cost is content = absurd (cc)
  cost_there (Knows n has) cost is content = absurd (cc)
  cost_there (Pre n a has) cost is content = absurd (cc)
  cost_there (Add n a has) cost is content = absurd (cc)
  cost_there (Del n a has) cost is content = absurd (cc)
  cost_there (Value f xs p u) cost is content = absurd (cc)

-- the value that a difference gives the user's model
user_keys : (d : Difference) (f : ℕ) (xs : List ℕ) → user_key d ≡ Some (f, xs) → (place_of d ≡ place.Value f xs) × IsSome (worth (user_content d))
user_keys (Value g ys p (Some u)) f xs given = let one : ◌≡◌ {A = ℕ × List ℕ} (g, ys) (f, xs) = cc in (ap (λ key. place.Value key.0 key.1) one, refl)
user_keys (Value g ys p None) f xs given = absurd (cc)
user_keys (Init a has) f xs given = absurd (cc)
user_keys (Goal a has) f xs given = absurd (cc)
user_keys (Knows n has) f xs given = absurd (cc)
user_keys (Pre n a has) f xs given = absurd (cc)
user_keys (Add n a has) f xs given = absurd (cc)
user_keys (Del n a has) f xs given = absurd (cc)
user_keys (Cost n p u) f xs given = absurd (cc)

key_there : (d : Difference) (f : ℕ) (xs : List ℕ) → place_of d ≡ place.Value f xs → IsSome (worth (user_content d)) → user_key d ≡ Some (f, xs)
key_there (Value g ys p (Some u)) f xs is some = let one : g ≡ f = cc in let two : ys ≡ xs = cc in (λ i. Some (one i, two i))
key_there (Value g ys p None) f xs is some = absurd (true≢false (sym some))
key_there (Init a has) f xs is some = absurd (cc)
key_there (Goal a has) f xs is some = absurd (cc)
key_there (Knows n has) f xs is some = absurd (cc)
key_there (Pre n a has) f xs is some = absurd (cc)
key_there (Add n a has) f xs is some = absurd (cc)
key_there (Del n a has) f xs is some = absurd (cc)
key_there (Cost n p u) f xs is some = absurd (cc)

-- a value list has a key exactly where it has a value
valued_to : (values : List (ℕ × List ℕ × ℕ)) (f : ℕ) (xs : List ℕ) → Contains (map key_of values) (f, xs) → IsSome (value_of values f xs)
valued_to [] f xs at = absurd (omega (arith, at.1))
valued_to (v ∷ vs) f xs there = by (nat_eq v.0 f && same_numbers v.1 xs) refl (contains_cases (key_of v) (map key_of vs) (f, xs) there) (valued_to vs f xs)
  where
    by : (b : Bool) → (nat_eq v.0 f && same_numbers v.1 xs) ≡ b → (key_of v ≡ (f, xs)) ⊎ Contains (map key_of vs) (f, xs) → (Contains (map key_of vs) (f, xs) → IsSome (value_of vs f xs)) → IsSome (cond b (Some v.2) (value_of vs f xs))
    by true is cases rest = refl
    by false is (inl same) rest =
        absurd (true≢false (sym (and_from (nat_eq v.0 f) (same_numbers v.1 xs) (eq-eqb v.0 f (ap (λ k. k.0) same)) ((same_numbers-decides v.1 xs).1 (ap (λ k. k.1) same))) ∙ is))
    by false is (inr later) rest = rest later

valued_from : (values : List (ℕ × List ℕ × ℕ)) (f : ℕ) (xs : List ℕ) → IsSome (value_of values f xs) → Contains (map key_of values) (f, xs)
valued_from [] f xs some = absurd (true≢false (sym some))
valued_from (v ∷ vs) f xs some = by (nat_eq v.0 f && same_numbers v.1 xs) refl some (valued_from vs f xs)
  where
    by : (b : Bool) → (nat_eq v.0 f && same_numbers v.1 xs) ≡ b → IsSome (cond b (Some v.2) (value_of vs f xs)) → (IsSome (value_of vs f xs) → Contains (map key_of vs) (f, xs)) → Contains (key_of v ∷ map key_of vs) (f, xs)
    by true is there rest =
        let (one, two) = and_parts (nat_eq v.0 f) (same_numbers v.1 xs) is in
        subst (Contains (key_of v ∷ map key_of vs)) (λ i. (eqb-true v.0 f one i, (same_numbers-decides v.1 xs).0 two i)) (contains_here (key_of v) (map key_of vs))
    by false is there rest = contains_later (key_of v) (map key_of vs) (f, xs) (rest there)

-- a schema has an atom in a list exactly where the model says so
module _ (model : Model) (action : ℕ) (schema : Schema) (at : slice_get model.schemas action ≡ Some schema) (part : Schema → List SchemaAtom) (f : SchemaAtom) where
  part_tested : place.schema_has part model action f ≡ list_any (same_schema_atom f) (part schema)
  part_tested = ap (λ o. option_map_or (λ s. list_any (same_schema_atom f) (part s)) o false) at

  pub part_has : Contains (part schema) f → place.schema_has part model action f ≡ true
  part_has listed = part_tested ∙ any_from_listed same_schema_atom same_schema_atom-decides f (part schema) listed

  pub has_part : place.schema_has part model action f ≡ true → Contains (part schema) f
  has_part has = listed_from_any same_schema_atom same_schema_atom-decides f (part schema) (sym part_tested ∙ has)

module _ (planner user : Model) (differences : List Difference) (all : AreDifferencesOf planner user differences) where
  says : (d : Difference) → Contains differences d → Says (meaning planner) (meaning user) d
  says d there = All-contains (Says (meaning planner) (meaning user)) differences d all.each there

  -- a place is that of a difference, or the models agree there
  pub differs_or_same : (p : Place) → ((d : Difference) × Contains differences d × (place_of d ≡ p)) ⊎ (meaning planner p ≡ meaning user p)
  differs_or_same p = elim (cases_Bool (list_any (λ q. same_place q p) (places_of differences))) [
    | inl listed ↦ inl (contains-map place_of differences p (listed_place p (places_of differences) listed))
    | inr unlisted ↦ inr (all.all.agree p (unlisted_place p (places_of differences) unlisted))
  ]

  -- the planner's features, and those that the differences give only the user's model
  either_is : {F : Type 0} (at : F → Place) (pick : Difference → Option F) (list : List F)
      → ((f : F) → Contains list f ↔ Has (meaning planner) (at f))
      → ((d : Difference) (f : F) → pick d ≡ Some f → IsAlone (at f) d)
      → ((d : Difference) (f : F) → place_of d ≡ at f → (pick d ≡ Some f) ⊎ (planner_content d ≡ Feature true))
      → (f : F) → Contains (list ++ filter_map pick differences) f ↔ (Has (meaning planner) (at f) ⊎ Has (meaning user) (at f))
  either_is at pick list listed alone side f = (
    λ there. elim (Contains-append_cases list (filter_map pick differences) f there) [
      | inl own ↦ inl ((listed f).0 own)
      | inr other ↦
          let (d, among, given) = picks_have pick differences f other in
          let is = alone d f given in
          inr (ap is_on (ap (meaning user) (sym is.at) ∙ (says d among).user_has ∙ is.user_has))
    ],
    λ has. elim has [
      | inl own ↦ Contains-append_left list (filter_map pick differences) f ((listed f).1 own)
      | inr other ↦ elim (differs_or_same (at f)) [
        | inr same ↦ Contains-append_left list (filter_map pick differences) f ((listed f).1 (ap is_on same ∙ other))
        | inl (d, among, here) ↦ elim (side d f here) [
          | inl given ↦ Contains-append_right list (filter_map pick differences) f (picks_keep pick differences d f among given)
          | inr both ↦ Contains-append_left list (filter_map pick differences) f ((listed f).1 (ap is_on (ap (meaning planner) (sym here) ∙ (says d among).planner_has ∙ both)))
        ]
      ]
    ],
  )

  pub init_is : (atom : GroundAtom) → Contains (planner.init ++ filter_map user_init differences) atom ↔ (Has (meaning planner) (place.Init atom) ⊎ Has (meaning user) (place.Init atom))
  init_is = either_is place.Init user_init planner.init
      (λ atom. (any_from_listed same_atom same_atom-decides atom planner.init, listed_from_any same_atom same_atom-decides atom planner.init)) alone_init side_init

  module _ (action : ℕ) (schema : Schema) (at : slice_get planner.schemas action ≡ Some schema) where
    part_is : (part : Schema → List SchemaAtom) (f : SchemaAtom) → Contains (part schema) f ↔ (place.schema_has part planner action f ≡ true)
    part_is part f = (part_has planner action schema at part f, has_part planner action schema at part f)

    pub adds_are : (f : SchemaAtom) → Contains (adds_of differences action schema) f ↔ (Has (meaning planner) (place.Add action f) ⊎ Has (meaning user) (place.Add action f))
    adds_are = either_is (place.Add action) (user_add action) schema.add (part_is (λ s. s.add)) (alone_add action) (side_add action)

    tested : (f : SchemaAtom) → is_pre action f differences ≡ list_any (λ q. same_place q (place.Pre action f)) (places_of differences)
    tested f = number_some 0 (places_of differences) (place.Pre action f)

    pub needs_are : (f : SchemaAtom) → Contains (needs_of differences action schema) f ↔ (Has (meaning planner) (place.Pre action f) × Has (meaning user) (place.Pre action f))
    needs_are f = (
      λ there.
          let (own, passes) = filter_has (λ atom. not (is_pre action atom differences)) schema.pre f there in
          let planner_has = (part_is (λ s. s.pre) f).0 own in
          (planner_has, sym (ap is_on (all.all.agree (place.Pre action f) (unlisted_place (place.Pre action f) (places_of differences) (sym (tested f) ∙ not_false (is_pre action f differences) passes)))) ∙ planner_has),
      λ (planner_has, user_has).
          filter_keeps (λ atom. not (is_pre action atom differences)) schema.pre f ((part_is (λ s. s.pre) f).1 planner_has)
          (elim (cases_Bool (is_pre action f differences)) [
            | inr none ↦ ap not none
            | inl some ↦ absurd (all.all.differ (place.Pre action f) (listed_place (place.Pre action f) (places_of differences) (sym (tested f) ∙ some)) (ap Feature planner_has ∙ sym (ap Feature user_has)))
          ]),
    )

    cost_is : meaning planner (place.Cost action) ≡ Price schema.cost
    cost_is = ap (λ o. option_map_or (λ s. Price s.cost) o Nothing) at

    pub costs_are : (cost : CostExpr) → Contains (costs_of differences action schema) cost ↔ ((meaning planner (place.Cost action) ≡ Price cost) ⊎ (meaning user (place.Cost action) ≡ Price cost))
    costs_are cost = (
      λ there. elim (contains_cases schema.cost (filter_map (user_cost action) differences) cost there) [
        | inl same ↦ inl (cost_is ∙ ap Price same)
        | inr other ↦
            let (d, among, given) = picks_have (user_cost action) differences cost other in
            let (here, content) = user_costs action d cost given in
            inr (ap (meaning user) (sym here) ∙ (says d among).user_has ∙ content)
      ],
      λ has. elim has [
        | inl own ↦ first (sym cost_is ∙ own)
        | inr other ↦ elim (differs_or_same (place.Cost action)) [
          | inr same ↦ first (sym cost_is ∙ same ∙ other)
          | inl (d, among, here) ↦
              contains_later schema.cost (filter_map (user_cost action) differences) cost
              (picks_keep (user_cost action) differences d cost among (cost_there action d cost here (sym (says d among).user_has ∙ ap (meaning user) here ∙ other)))
        ]
      ],
    )
      where
        first : Price schema.cost ≡ Price cost → Contains (costs_of differences action schema) cost
        first same = let one : schema.cost ≡ cost = cc in subst (Contains (costs_of differences action schema)) one (contains_here schema.cost (filter_map (user_cost action) differences))

  pub keys_are : (f : ℕ) (xs : List ℕ) → Contains (map key_of planner.values ++ filter_map user_key differences) (f, xs)
      ↔ (IsSome (worth (meaning planner (place.Value f xs))) ⊎ IsSome (worth (meaning user (place.Value f xs))))
  keys_are f xs = (
    λ there. elim (Contains-append_cases (map key_of planner.values) (filter_map user_key differences) (f, xs) there) [
      | inl own ↦ inl (valued_to planner.values f xs own)
      | inr other ↦
          let (d, among, given) = picks_have user_key differences (f, xs) other in
          let (here, some) = user_keys d f xs given in
          inr (ap (λ c. is_some (worth c)) (ap (meaning user) (sym here) ∙ (says d among).user_has) ∙ some)
    ],
    λ has. elim has [
      | inl own ↦ Contains-append_left (map key_of planner.values) (filter_map user_key differences) (f, xs) (valued_from planner.values f xs own)
      | inr other ↦ elim (differs_or_same (place.Value f xs)) [
        | inr same ↦ Contains-append_left (map key_of planner.values) (filter_map user_key differences) (f, xs) (valued_from planner.values f xs (ap (λ c. is_some (worth c)) same ∙ other))
        | inl (d, among, here) ↦
            Contains-append_right (map key_of planner.values) (filter_map user_key differences) (f, xs)
            (picks_keep user_key differences d (f, xs) among (key_there d f xs here (ap (λ c. is_some (worth c)) (sym (says d among).user_has ∙ ap (meaning user) here) ∙ other)))
      ]
    ],
  )
