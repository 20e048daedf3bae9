-- The atoms and ground actions that are reachable in two models can be listed, so it is decided whether they are more than a table may list.
use Rattle.std.proofs.Common.{◌≡◌, ℕ, ◌<◌, cond, Some, is_some, List, [], ◌++◌, length, map, inl, inr, sym, ap, subst}
use Rattle.std.specs.Prelude.{◌↔◌, Contains, slice_get}
use Rattle.std.specs.List.{flat_map, filter_map}
use Rattle.std.specs.Option.{option_map_or}
use Rattle.std.proofs.lemmas.Bool.{cases_lt}
use Rattle.std.proofs.lemmas.List.Elements.{Contains-append_left, Contains-append_right, Contains-append_cases, All-weaker, All-contains_itself}
use Rattle.mre_base.proofs.Listed.{map-contains, contains-map}
use Rattle.model_kit.specs.declared.model.Model.{Model}
use Rattle.model_kit.specs.declared.model.Schema.{Schema}
use Rattle.model_kit.specs.declared.model.CostExpr.{CostExpr}
use Rattle.model_kit.specs.declared.model.CostExpr.TheVariants.{Number, Call}
use Rattle.model_kit.specs.declared.atom.GroundAtom.{GroundAtom}
use Rattle.model_kit.specs.declared.atom.SchemaAtom.{SchemaAtom}
use Rattle.model_kit.specs.declared.action.GroundAction.{GroundAction}
use Rattle.model_kit.specs.Places.{Init, Pre, Add, Cost, Value, Price, Nothing, meaning}
use Rattle.model_kit.specs.Runs.{Has, instance, object_of, worth}
use Rattle.model_kit.specs.Same.{same_atom}
use Rattle.model_kit.specs.Vocabulary.{is_ground_action, IsGroundAction, is_object_of}
use Rattle.model_kit.proofs.Alike.{same_atom-decides}
use Rattle.model_kit.proofs.Fits.{signature_listed}
use Rattle.model_kit.proofs.ListLemmas.{flat_contains, all_actions, ground_listed}
use Rattle.reach_kit.specs.declared.world.World.{World}
use Rattle.reach_kit.specs.Relaxed.{HasValue}
use Rattle.feature_diff.specs.declared.difference.Difference.{Difference}
use Rattle.feature_diff.specs.Differing.{AreDifferencesOf}
use Rattle.named_tables.specs.Models.{Models, EitherHas, HasSomeCost}
use Rattle.named_tables.specs.Numbered.{ListsReachable}
use Rattle.named_tables.specs.Reachable as named
use Rattle.named_tables.specs.Reachable.{Thing, Atom, Action, Reachable}
use Rattle.named_tables.proofs.ReachLemmas.{reached_fits}
use Rattle.pair_rules.specs.Made.{user_init, user_key, key_of, is_known, needs_of, adds_of, costs_of}
use Rattle.pair_rules.specs.Ruled.{models_of}
use Rattle.pair_rules.proofs.FeatureLemmas.{init_is, needs_are, adds_are, costs_are, keys_are}
use Rattle.pair_rules.proofs.PriceLemmas.{priced_is}
use Rattle.pair_rules.proofs.RuleLemmas.{schema_there}
use Rattle.ground_core.specs.Full.{ListedAllLaw, FullLaw}
use Rattle.ground_core.specs.Grounds.{IsFull}
use Rattle.ground_core.proofs.GroundLemmas.{listed_again, not_full}
use Rattle.ground_core.proofs.Saturated.{Known, known_test, known_same, known_by, known_both, known_either, some_known, all_known, contains_known, flat_from, Once, once, Saturated, saturated}

-- ---- it is decided whether two atoms are equal, and whether two ground actions are
atom_known : (a b : GroundAtom) → Known (a ≡ b)
atom_known a b = known_by (same_atom a b) (same_atom-decides a b)

-- the action's name and objects, as those of an atom, and back
abbrev as_atom : GroundAction → GroundAtom
as_atom action = record { predicate = action.schema; objects = action.objects }

abbrev as_action : GroundAtom → GroundAction
as_action atom = record { schema = atom.predicate; objects = atom.objects }

action_known : (a b : GroundAction) → Known (a ≡ b)
action_known a b = known_same (ap as_action) (ap as_atom) (atom_known (as_atom a) (as_atom b))

module _ (planner user : Model) (differences : List Difference) (all : AreDifferencesOf planner user differences) (joint : user.words ≡ planner.words) where
  abbrev models : Models
  models = models_of planner user differences

  abbrev IsGround : GroundAction → Type 0
  IsGround = IsGroundAction planner.words

  -- ---- the schemas of a ground action in the two models
  number_below : (action : GroundAction) → IsGround action → action.schema < length planner.words.actions
  number_below action fits = signature_listed (is_object_of planner.words) planner.words.actions action.schema action.objects fits

  own_schema : (action : GroundAction) → IsGround action → (schema : Schema) × (slice_get planner.schemas action.schema ≡ Some schema)
  own_schema action fits = schema_there planner action.schema (number_below action fits)

  other_schema : (action : GroundAction) → IsGround action → (schema : Schema) × (slice_get user.schemas action.schema ≡ Some schema)
  other_schema action fits = schema_there user action.schema (subst (λ w. action.schema < length w.actions) (sym joint) (number_below action fits))

  cost_at : (model : Model) (n : ℕ) (schema : Schema) → slice_get model.schemas n ≡ Some schema → meaning model (Cost n) ≡ Price schema.cost
  cost_at model n schema at = ap (λ o. option_map_or (λ s. Price s.cost) o Nothing) at

  -- ---- it is decided whether a ground action has a cost after some set of differences

  -- the functions at objects that have a value in one of the models
  abbrev valued : World
  valued = record { fitting = []; initial = []; values = map key_of planner.values ++ filter_map user_key differences; rules = [] }

  value_known : (objects : List ℕ) (cost : CostExpr) → Known (HasValue valued objects cost)
  value_known objects (Number n) = inl tt
  value_known objects (Call f args) =
      let xs = map (object_of objects) args in
      let (to, from) = keys_are planner user differences all f xs in
      known_same from to (known_either (known_test (is_some (worth (meaning planner (Value f xs))))) (known_test (is_some (worth (meaning user (Value f xs))))))

  price_known : (action : GroundAction) → IsGround action → Known (HasSomeCost models action)
  price_known action fits =
      let (own, own_at) = own_schema action fits in
      let (other, other_at) = other_schema action fits in
      let n = action.schema in
      let costs = costs_of differences n own in
      let (to, from) =
      priced_is planner user differences all valued (keys_are planner user differences all) n action.objects own.cost other.cost (cost_at planner n own own_at) (cost_at user n other other_at)
      costs (costs_are planner user differences all n own own_at) in
      known_same to from (some_known (HasValue valued action.objects) (value_known action.objects) (cond (is_known planner user n) costs []))

  -- ---- the atoms that are there after actions, where nothing is made false

  abbrev initial : List GroundAtom
  initial = planner.init ++ filter_map user_init differences

  -- what a ground action adds in one of the models
  abbrev adds_at : ℕ → List SchemaAtom
  adds_at n = option_map_or (adds_of differences n) (slice_get planner.schemas n) []

  adds_at_are : (action : GroundAction) → IsGround action → (f : SchemaAtom) → Contains (adds_at action.schema) f ↔ EitherHas models (Add action.schema f)
  adds_at_are action fits f =
      let (schema, at) = own_schema action fits in
      subst (λ o. Contains (option_map_or (adds_of differences action.schema) o []) f ↔ EitherHas models (Add action.schema f)) (sym at)
      (adds_are planner user differences all action.schema schema at f)

  abbrev added : GroundAction → List GroundAtom
  added action = map (instance action.objects) (adds_at action.schema)

  abbrev atoms_after : List GroundAction → List GroundAtom
  atoms_after actions = initial ++ flat_map added actions

  -- after reachable actions there are reachable atoms
  after_reached : (actions : List GroundAction) → ((action : GroundAction) → Contains actions action → Reachable models (Action action)) → (atom : GroundAtom) → Contains (atoms_after actions) atom → Reachable models (Atom atom)
  after_reached actions reached atom there = elim (Contains-append_cases initial (flat_map added actions) atom there) [
    | inl first ↦ named.Initial atom ((init_is planner user differences all atom).0 first)
    | inr later ↦
        let (action, among, by_it) = flat_from added actions atom later in
        let (f, listed, is) = contains-map (instance action.objects) (adds_at action.schema) atom by_it in
        let does = reached action among in
        subst (λ a. Reachable models (Atom a)) is (named.Added action f does ((adds_at_are action (reached_fits models action does) f).0 listed))
  ]

  after_initial : (actions : List GroundAction) (atom : GroundAtom) → EitherHas models (Init atom) → Contains (atoms_after actions) atom
  after_initial actions atom has = Contains-append_left initial (flat_map added actions) atom ((init_is planner user differences all atom).1 has)

  after_added : (actions : List GroundAction) (action : GroundAction) → IsGround action → Contains actions action → (f : SchemaAtom) → EitherHas models (Add action.schema f) → Contains (atoms_after actions) (instance action.objects f)
  after_added actions action fits among f has =
      Contains-append_right initial (flat_map added actions) (instance action.objects f)
      (flat_contains added actions action (instance action.objects f) among
      (map-contains (instance action.objects) (adds_at action.schema) f ((adds_at_are action fits f).1 has)))

  -- ---- one step: a ground action that has a cost, and whose preconditions that both models have are there after actions

  abbrev AreThere : List GroundAction → GroundAction → Type 0
  AreThere done action =
      (f : SchemaAtom) → Has (meaning planner) (Pre action.schema f) → Has (meaning user) (Pre action.schema f) → Contains (atoms_after done) (instance action.objects f)

  abbrev IsEnabled : List GroundAction → GroundAction → Type 0
  IsEnabled done action = IsGround action × HasSomeCost models action × AreThere done action

  there_known : (done : List GroundAction) (action : GroundAction) → IsGround action → Known (AreThere done action)
  there_known done action fits =
      let (schema, at) = own_schema action fits in
      let needs = needs_are planner user differences all action.schema schema at in
      known_same {P = (f : SchemaAtom) → Contains (needs_of differences action.schema schema) f → Contains (atoms_after done) (instance action.objects f)} {Q = AreThere done action}
      (λ each f own other. each f ((needs f).1 (own, other))) (λ there f among. let (own, other) = (needs f).0 among in there f own other)
      (all_known (λ f. Contains (atoms_after done) (instance action.objects f)) (λ f. contains_known atom_known (atoms_after done) (instance action.objects f)) (needs_of differences action.schema schema))

  enabled_known : (done : List GroundAction) (action : GroundAction) → Known (IsEnabled done action)
  enabled_known done action = elim (known_test (is_ground_action planner.words action)) [
    | inl fits ↦ known_same {P = HasSomeCost models action × AreThere done action} {Q = IsEnabled done action} (λ both. (fits, both.0, both.1)) (λ enabled. (enabled.1, enabled.2)) (known_both (price_known action fits) (there_known done action fits))
    | inr fails ↦ inr (λ enabled. fails enabled.0)
  ]

  enabled_reached : (done : List GroundAction) → ((action : GroundAction) → Contains done action → Reachable models (Action action)) → (action : GroundAction) → IsEnabled done action → Reachable models (Action action)
  enabled_reached done reached action (fits, some, there) = named.Enabled action fits some (λ f own other. after_reached done reached (instance action.objects f) (there f own other))

  -- ---- the reachable actions, and the atoms after them
  whole : Saturated (all_actions planner.words) IsEnabled enabled_known (λ action. Reachable models (Action action)) enabled_reached
  whole = saturated (all_actions planner.words) IsEnabled enabled_known (λ action. Reachable models (Action action)) enabled_reached

  abbrev IsListed : Thing → Type 0
  IsListed (Atom atom) = Contains (atoms_after whole.done) atom
  IsListed (Action action) = Contains whole.done action

  -- what is reachable is listed
  reached_listed : (thing : Thing) → Reachable models thing → IsListed thing
  reached_listed (Atom a) (named.Initial atom has) = after_initial whole.done atom has
  reached_listed (Action a) (named.Enabled action fits some needs) =
      whole.closed action (ground_listed planner.words action fits) (fits, some, λ f own other. reached_listed (Atom (instance action.objects f)) (needs f own other))
  reached_listed (Atom a) (named.Added action f does has) = after_added whole.done action (reached_fits models action does) (reached_listed (Action action) does) f has

  lists : ListsReachable models (atoms_after whole.done) whole.done
  lists = record {
    each_atom = λ atom. (after_reached whole.done whole.good atom, reached_listed (Atom atom));
    each_action = λ action. (whole.good action, reached_listed (Action action));
  }

  -- ---- each once, the reachable atoms and actions are more than a table may list, or not
  atoms_once : Once (atoms_after whole.done)
  atoms_once = once atom_known (atoms_after whole.done)

  actions_once : Once whole.done
  actions_once = once action_known whole.done

  lists_once : ListsReachable models atoms_once.items actions_once.items
  lists_once =
      listed_again models (atoms_after whole.done) atoms_once.items whole.done actions_once.items lists
      (λ atom. (atoms_once.to atom, atoms_once.from atom)) (λ action. (actions_once.to action, actions_once.from action))

  full_known : Known (IsFull planner user differences)
  full_known = elim (cases_lt 4096 (length atoms_once.items)) [
    | inl more ↦ inl (inl (
      atoms_once.items,
      more,
      atoms_once.distinct,
      All-weaker (Contains atoms_once.items) (λ atom. Reachable models (Atom atom)) (λ atom. (lists_once.each_atom atom).0) atoms_once.items (All-contains_itself atoms_once.items),
    ))
    | inr few_atoms ↦ elim (cases_lt 50000 (length actions_once.items)) [
      | inl more ↦ inl (inr (
        actions_once.items,
        more,
        actions_once.distinct,
        All-weaker (Contains actions_once.items) (λ action. Reachable models (Action action)) (λ action. (lists_once.each_action action).0) actions_once.items (All-contains_itself actions_once.items),
      ))
      | inr few_actions ↦ inr (not_full planner user differences atoms_once.items actions_once.items lists_once few_atoms few_actions)
    ]
  ]

  listed_all : (atoms : List GroundAtom) × (actions : List GroundAction) × ListsReachable models atoms actions
  listed_all = (atoms_once.items, actions_once.items, lists_once)

pub listed_all_law : ListedAllLaw
listed_all_law planner user differences all joint = listed_all planner user differences all joint

pub full_law : FullLaw
full_law planner user differences all joint = full_known planner user differences all joint
