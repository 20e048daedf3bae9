-- What is made of two models and their differences are their rules.
use Rattle.std.proofs.Common.{◌≡◌, ℕ, suc, ◌+◌, ◌<◌, Bool, ◌||◌, not, true, false, cond, Some, List, [], ◌∷◌, ◌++◌, length, ◌∙◌, ◌⊎◌, inl, inr, refl, sym, ap, subst, get_or, arith}
use Rattle.std.specs.Prelude.{◌↔◌, Contains, IsSome, IsTrue, slice_get, unwrap_or, All}
use Rattle.std.specs.Option.{option_map_or}
use Rattle.std.specs.Cmp.Lexicographic.{pointwise}
use Rattle.std.proofs.lemmas.Bool.{or_left, and_from}
use Rattle.std.proofs.lemmas.Option.{slice_get-get_or, slice_get_within, get_or_from_slice_get}
use Rattle.std.proofs.lemmas.List.{length_push}
use Rattle.std.proofs.lemmas.List.Elements.{All-weaker, All-contains, All-contains_itself}
use Rattle.model_kit.specs.declared.vocabulary.Vocabulary.{Vocabulary}
use Rattle.model_kit.specs.declared.vocabulary.Signature.{Signature}
use Rattle.model_kit.specs.declared.model.Model.{Model}
use Rattle.model_kit.specs.declared.model.Schema.{Schema}
use Rattle.model_kit.specs.declared.model.CostExpr.{CostExpr}
use Rattle.model_kit.specs.declared.model.CostExpr.TheVariants.{Number, Call}
use Rattle.model_kit.specs.declared.atom.SchemaAtom.{SchemaAtom}
use Rattle.model_kit.specs.declared.atom.Term.{Term}
use Rattle.model_kit.specs.Features.{is_cost}
use Rattle.model_kit.specs.Places.{Nothing, Feature, Price, Knows, Cost, Value, meaning}
use Rattle.model_kit.specs.Runs.{is_on, worth}
use Rattle.model_kit.specs.Vocabulary.{IsGroundAction, is_object_of, is_term_of, is_schema_atom, fits_signature}
use Rattle.model_kit.proofs.FitLemmas.{pointwise_count}
use Rattle.model_kit.proofs.Fits.{signature_listed, each_arg_fits, entry_listed}
use Rattle.model_kit.proofs.ModelFacts.{SchemaFacts, facts_of_model}
use Rattle.model_kit.proofs.TypeLemmas.{fits_at}
use Rattle.reach_kit.specs.declared.world.World.{World}
use Rattle.reach_kit.specs.declared.world.Rule.{Rule}
use Rattle.reach_kit.specs.Relaxed.{Fits, IsRule, ArePlaced, IsPlaced}
use Rattle.task_kit.proofs.PlaceLemmas.{push_cases}
use Rattle.feature_diff.specs.declared.difference.Difference.{Difference}
use Rattle.feature_diff.specs.Differing.{AreDifferencesOf}
use Rattle.named_tables.specs.Worlds.{IsRuleOf, action_with}
use Rattle.pair_rules.specs.Fitting.{IsFitting}
use Rattle.pair_rules.specs.Made.{is_pre, is_known, needs_of, adds_of, costs_of, IsRuleMade, AreRulesMade, IsWorldMade}
use Rattle.pair_rules.specs.Ruled.{models_of, HasRules}
use Rattle.pair_rules.proofs.PartLemmas.{filter_has}
use Rattle.pair_rules.proofs.FeatureLemmas.{init_is, needs_are, adds_are, costs_are, keys_are, has_part}
use Rattle.pair_rules.proofs.PriceLemmas.{priced_is}
use Rattle.pair_rules.proofs.TypeLemmas.{params_below}

-- ---- one more rule
pub rules_more : (planner user : Model) (differences : List Difference) (count : ℕ) (old new : List Rule) (rule : Rule) → AreRulesMade planner user differences count old → IsRuleMade planner user differences count rule
    → new ≡ old ++ rule ∷ [] → AreRulesMade planner user differences (count + 1) new
rules_more planner user differences count old new rule before is now = record {
  counted = ap length now ∙ length_push old rule ∙ ap (λ n. n + 1) before.counted;
  each = λ action other at. elim (push_cases old rule action other (sym (ap (λ list. slice_get list action) now) ∙ at)) [
    | inl earlier ↦ before.each action other earlier
    | inr (last, same) ↦ subst (λ n. IsRuleMade planner user differences n other) (sym (last ∙ before.counted)) (subst (IsRuleMade planner user differences count) (sym same) is)
  ];
}

-- whether one of the models knows the action
module _ (planner user : Model) (action : ℕ) (own : Bool) (own_is : meaning planner (Knows action) ≡ Feature own) where
  pub known_first : own ≡ true → true ≡ is_known planner user action
  known_first is = sym (or_left (is_on (meaning planner (Knows action))) (is_on (meaning user (Knows action))) (ap is_on own_is ∙ is))

  pub known_second : own ≡ false → (other : Bool) → meaning user (Knows action) ≡ Feature other → other ≡ is_known planner user action
  known_second is other other_is = λ i. (sym (ap is_on own_is ∙ is) i) || (sym (ap is_on other_is) i)

-- each action of a model's words has a schema
pub schema_there : (model : Model) (action : ℕ) → action < length model.words.actions → (schema : Schema) × (slice_get model.schemas action ≡ Some schema)
schema_there model action lt =
    let none : Schema = record { pre = []; add = []; del = []; cost = Number 0 } in
    (get_or model.schemas action none, slice_get-get_or model.schemas action none (let same = (facts_of_model model).one_each in omega (arith, lt, same)))

-- ---- what fits
module _ (words : Vocabulary) (world : World) (fitting : IsFitting words world.fitting) (action : ℕ) (signature : Signature) (signed : slice_get words.actions action ≡ Some signature) where
  param_listed : (i kind : ℕ) → slice_get signature.params i ≡ Some kind → Contains signature.params kind
  param_listed i kind at = (i, slice_get_within signature.params i kind at, get_or_from_slice_get signature.params i kind kind at)

  objects_there : (kind : ℕ) → Contains signature.params kind → (objects : List ℕ) × (slice_get world.fitting kind ≡ Some objects)
  objects_there kind among =
      let lt : kind < length words.types = All-contains (λ k. k < length words.types) signature.params kind (params_below words action signature signed) among in
      (get_or world.fitting kind [], slice_get-get_or world.fitting kind [] (let same = fitting.counted in omega (arith, lt, same)))

  is_of_kind : (kind object : ℕ) → Contains signature.params kind → Contains (unwrap_or (slice_get world.fitting kind) []) object ↔ (is_object_of words object kind ≡ true)
  is_of_kind kind object among =
      let (objects, at) = objects_there kind among in
      let each = fitting.each kind objects at (action, signature, signed, among) object in (
        λ there. each.0 (subst (λ o. Contains (unwrap_or o []) object) at there),
        λ fit. subst (λ o. Contains (unwrap_or o []) object) (sym at) (each.1 fit),
      )

  all_fit : (objects kinds : List ℕ) → length objects ≡ length kinds → ((i kind object : ℕ) → slice_get kinds i ≡ Some kind → slice_get objects i ≡ Some object → is_object_of words object kind ≡ true)
      → pointwise (is_object_of words) objects kinds ≡ true
  all_fit [] [] same each = refl
  all_fit [] (kind ∷ kinds) same each = absurd (omega (arith, same))
  all_fit (object ∷ objects) [] same each = absurd (omega (arith, same))
  all_fit (object ∷ objects) (kind ∷ kinds) same each =
      and_from (is_object_of words object kind) (pointwise (is_object_of words) objects kinds) (each 0 kind object refl refl)
      (all_fit objects kinds (omega (arith, same)) (λ i k o k_at o_at. each (i + 1) k o (ap (slice_get (kind ∷ kinds)) (next i) ∙ k_at) (ap (slice_get (object ∷ objects)) (next i) ∙ o_at)))
    where
      next : (i : ℕ) → i + 1 ≡ suc i
      next i = omega arith

  pub fits_are : (objects : List ℕ) → Fits world signature.params objects ↔ IsGroundAction words (action_with action objects)
  fits_are objects = (
    λ fits. is ∙ all_fit objects signature.params fits.count (λ i kind object at object_at. (is_of_kind kind object (param_listed i kind at)).0 (fits.typed i kind object at object_at)),
    λ fit.
        let points : pointwise (is_object_of words) objects signature.params ≡ true = sym is ∙ fit in
        record {
          count = pointwise_count (is_object_of words) objects signature.params points;
          typed = λ i kind object at object_at.
              (is_of_kind kind object (param_listed i kind at)).1
              (subst (λ o. is_object_of words o kind ≡ true) (get_or_from_slice_get objects i object 0 object_at) (fits_at (is_object_of words) objects signature.params points i kind 0 at));
        },
  )
    where
      is : fits_signature (is_object_of words) words.actions action objects ≡ pointwise (is_object_of words) objects signature.params
      is = ap (λ o. option_map_or (λ s. pointwise (is_object_of words) objects s.params) o false) signed

-- ---- where the parameters of terms are
terms_placed : (words : Vocabulary) (params : List ℕ) (signatures : List Signature) (n : ℕ) (args : List Term) → fits_signature (is_term_of words params) signatures n args ≡ true → ArePlaced (length params) args
terms_placed words params signatures n args fit k d lt i is =
    let (type, fits) = each_arg_fits (is_term_of words params) signatures n args fit k d lt in
    entry_listed _ params i (subst (λ term. is_term_of words params term type ≡ true) is fits)

cost_placed : (words : Vocabulary) (params : List ℕ) (cost : CostExpr) → is_cost words params cost ≡ true → IsPlaced (length params) cost
cost_placed words params (Number n) fit = tt
cost_placed words params (Call f args) fit = terms_placed words params words.functions f args fit

module _ (planner user : Model) (joint : user.words ≡ planner.words) (differences : List Difference) (all : AreDifferencesOf planner user differences) (world : World)
    (made : IsWorldMade planner user differences world) where
  module _ (action : ℕ) (rule : Rule) (of : IsRuleMade planner user differences action rule) where
    abbrev words : Vocabulary
    words = planner.words

    user_schema : (schema : Schema) × (slice_get user.schemas action ≡ Some schema)
    user_schema = schema_there user action (subst (λ w. action < length w.actions) (sym joint) (slice_get_within words.actions action of.signature of.signed))

    own_facts : SchemaFacts words of.signature.params of.schema
    own_facts = (facts_of_model planner).schemas_kept action of.schema of.signature of.listed of.signed

    other_facts : SchemaFacts words of.signature.params user_schema.0
    other_facts =
        subst (λ w. SchemaFacts w of.signature.params user_schema.0) joint
        ((facts_of_model user).schemas_kept action user_schema.0 of.signature user_schema.1 (ap (λ w. slice_get w.actions action) joint ∙ of.signed))

    own_cost : meaning planner (Cost action) ≡ Price of.schema.cost
    own_cost = ap (λ o. option_map_or (λ s. Price s.cost) o Nothing) of.listed

    other_cost : meaning user (Cost action) ≡ Price user_schema.0.cost
    other_cost = ap (λ o. option_map_or (λ s. Price s.cost) o Nothing) user_schema.1

    abbrev costs : List CostExpr
    costs = costs_of differences action of.schema

    pub rule_is : IsRuleOf (models_of planner user differences) world action rule
    rule_is = subst (IsRuleOf (models_of planner user differences) world action) (sym of.is) (record {
      fits = fits_are words world made.fitting action of.signature of.signed;
      priced = λ objects fit. priced_is planner user differences all world keyed action objects of.schema.cost user_schema.0.cost own_cost other_cost costs (costs_are planner user differences all action of.schema of.listed);
      needs = needs_are planner user differences all action of.schema of.listed;
      adds = adds_are planner user differences all action of.schema of.listed;
    })
      where
        keyed : (f : ℕ) (xs : List ℕ) → Contains world.values (f, xs) ↔ (IsSome (worth (meaning planner (Value f xs))) ⊎ IsSome (worth (meaning user (Value f xs))))
        keyed f xs = let are = keys_are planner user differences all f xs in (λ there. are.0 (subst (λ list. Contains list (f, xs)) made.values there), λ has. subst (λ list. Contains list (f, xs)) (sym made.values) (are.1 has))

    abbrev atom_fits : SchemaAtom → Type 0
    atom_fits f = IsTrue (is_schema_atom words of.signature.params f)

    atom_placed : (f : SchemaAtom) → atom_fits f → ArePlaced (length of.signature.params) f.args
    atom_placed f fit = terms_placed words of.signature.params words.predicates f.predicate f.args fit

    add_placed : (f : SchemaAtom) → Contains (adds_of differences action of.schema) f → ArePlaced (length of.signature.params) f.args
    add_placed f there = elim ((adds_are planner user differences all action of.schema of.listed f).0 there) [
      | inl own ↦ atom_placed f (All-contains atom_fits of.schema.add f own_facts.add_kept.fit (has_part planner action of.schema of.listed (λ s. s.add) f own))
      | inr other ↦ atom_placed f (All-contains atom_fits user_schema.0.add f other_facts.add_kept.fit (has_part user action user_schema.0 user_schema.1 (λ s. s.add) f other))
    ]

    one_placed : (cost : CostExpr) → Contains costs cost → IsPlaced (length of.signature.params) cost
    one_placed cost there = elim ((costs_are planner user differences all action of.schema of.listed cost).0 there) [
      | inl own ↦
          let prices : Price of.schema.cost ≡ Price cost = sym own_cost ∙ own in
          let same : of.schema.cost ≡ cost = cc in
          cost_placed words of.signature.params cost (subst (λ c. is_cost words of.signature.params c ≡ true) same own_facts.cost_fits)
      | inr other ↦
          let prices : Price user_schema.0.cost ≡ Price cost = sym other_cost ∙ other in
          let same : user_schema.0.cost ≡ cost = cc in
          cost_placed words of.signature.params cost (subst (λ c. is_cost words of.signature.params c ≡ true) same other_facts.cost_fits)
    ]

    costs_placed : (b : Bool) (cost : CostExpr) → Contains (cond b costs []) cost → IsPlaced (length of.signature.params) cost
    costs_placed true cost there = one_placed cost there
    costs_placed false cost at = absurd (omega (arith, at.1))

    pub rule_whole : IsRule world rule
    rule_whole = subst (IsRule world) (sym of.is) (record {
      params = subst (λ n. All (λ kind. kind < n) of.signature.params) (sym made.fitting.counted) (params_below words action of.signature of.signed);
      needs = All-weaker (Contains (needs_of differences action of.schema)) (λ need. ArePlaced (length of.signature.params) need.args)
          (λ f there. atom_placed f (All-contains atom_fits of.schema.pre f own_facts.pre_kept.fit (filter_has (λ atom. not (is_pre action atom differences)) of.schema.pre f there).0)) (needs_of differences action of.schema) (All-contains_itself (needs_of differences action of.schema));
      costs = All-weaker (Contains (cond (is_known planner user action) costs [])) (IsPlaced (length of.signature.params)) (costs_placed (is_known planner user action)) (cond (is_known planner user action) costs []) (All-contains_itself (cond (is_known planner user action) costs []));
      adds = All-weaker (Contains (adds_of differences action of.schema)) (λ add. ArePlaced (length of.signature.params) add.args) add_placed (adds_of differences action of.schema) (All-contains_itself (adds_of differences action of.schema));
    })

  pub has_rules : HasRules planner user differences world
  has_rules = record {
    initial = λ atom. let are = init_is planner user differences all atom in (λ there. are.0 (subst (λ list. Contains list atom) made.initial there), λ has. subst (λ list. Contains list atom) (sym made.initial) (are.1 has));
    each = λ action rule at. rule_is action rule (made.rules.each action rule at);
    all = λ action fit.
        let lt = signature_listed (is_object_of planner.words) planner.words.actions action.schema action.objects fit in
        let none : Rule = record { params = []; needs = []; costs = []; adds = [] } in
        (get_or world.rules action.schema none, slice_get-get_or world.rules action.schema none (let same = made.rules.counted in omega (arith, lt, same)));
  }

  pub rules_whole : All (IsRule world) world.rules
  rules_whole k d lt = let rule = get_or world.rules k d in rule_whole k rule (made.rules.each k rule (slice_get-get_or world.rules k d lt))
