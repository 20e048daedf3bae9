-- What reachability says of two models, and that no more atoms and actions are reachable than a table lists.
use Rattle.std.proofs.Common.{◌≡◌, ◌≢◌, ℕ, zero, suc, ◌≤◌, ◌<◌, Some, List, [], ◌∷◌, length, ◌∙◌, inl, inr, refl, sym, ap, subst, arith}
use Rattle.std.specs.Prelude.{◌↔◌, ◌⊎◌, All, AllPairs, Contains, IsTrue, IfErr, Result, Ok, Err, slice_get}
use Rattle.std.specs.Result.{IsErrAnd}
use Rattle.std.proofs.lemmas.List.Elements.{All-weaker, All-contains, All-contains_itself}
use Rattle.std.proofs.lemmas.Option.{slice_get-get_or}
use Rattle.model_kit.specs.declared.model.Model.{Model}
use Rattle.model_kit.specs.declared.atom.GroundAtom.{GroundAtom}
use Rattle.model_kit.specs.declared.action.GroundAction.{GroundAction}
use Rattle.model_kit.specs.Runs.{instance}
use Rattle.model_kit.specs.Vocabulary.{IsGroundAction, is_ground_atom}
use Rattle.model_kit.proofs.ModelFacts.{facts_of_model}
use Rattle.reach_kit.specs.declared.world.World.{World}
use Rattle.reach_kit.specs.declared.world.Limits.{Limits}
use Rattle.reach_kit.specs.declared.world.ReachStop.{ReachStop}
use Rattle.reach_kit.specs.declared.world.ReachStop.TheVariants as stops
use Rattle.reach_kit.specs.Relaxed as rules
use Rattle.model_kit.specs.Places.{Place, meaning}
use Rattle.feature_diff.specs.declared.difference.Difference.{Difference}
use Rattle.feature_diff.specs.Differing.{places_of}
use Rattle.feature_diff.specs.declared.facts.FactKind.TheVariants.{Init}
use Rattle.feature_diff.specs.declared.schema_parts.SchemaPart.TheVariants.{Add}
use Rattle.named_tables.specs.Models.{Models}
use Rattle.named_tables.specs.Numbered.{ListsReachable}
use Rattle.named_tables.specs.Reachable as named
use Rattle.named_tables.specs.Reachable.{Reachable, Atom, Action}
use Rattle.named_tables.specs.Worlds.{AreRulesOf}
use Rattle.named_tables.proofs.ReachLemmas.{reached_fits}
use Rattle.named_tables.proofs.WorldLemmas.{in_models}
use Rattle.pair_rules.specs.Ruled.{models_of}
use Rattle.pair_tables.proofs.PlacedLemmas.{feature_ground}
use Rattle.pair_tables.proofs.SchemaLemmas.{fact_is}
use Rattle.ground_core.specs.declared.stop.GroundStop.{GroundStop}
use Rattle.ground_core.specs.Stops.{stop_of, Exceeds}
use Rattle.ground_core.specs.Grounds.{IsFull}

-- reordered lists of the reachable things are lists of the reachable things
pub listed_again : (models : Models) (atoms same_atoms : List GroundAtom) (actions same_actions : List GroundAction) → ListsReachable models atoms actions → ((atom : GroundAtom) → Contains same_atoms atom ↔ Contains atoms atom)
    → ((action : GroundAction) → Contains same_actions action ↔ Contains actions action) → ListsReachable models same_atoms same_actions
listed_again models atoms same_atoms actions same_actions lists atoms_same actions_same = record {
  each_atom = λ atom. (λ there. (lists.each_atom atom).0 ((atoms_same atom).0 there), λ reach. (atoms_same atom).1 ((lists.each_atom atom).1 reach));
  each_action = λ action. (λ there. (lists.each_action action).0 ((actions_same action).0 there), λ reach. (actions_same action).1 ((lists.each_action action).1 reach));
}

-- ---- reachable atoms and actions fit the vocabulary
pub actions_fit : (models : Models) (atoms : List GroundAtom) (actions : List GroundAction) → ListsReachable models atoms actions → All (IsGroundAction models.words) actions
actions_fit models atoms actions lists = All-weaker (Contains actions) (IsGroundAction models.words) (λ action among. reached_fits models action ((lists.each_action action).0 among)) actions (All-contains_itself actions)

module _ (planner user : Model) (joint : user.words ≡ planner.words) (differences : List Difference) where
  abbrev models : Models
  models = models_of planner user differences

  fact_fits : (model : Model) (atom : GroundAtom) → Contains model.init atom → IsTrue (is_ground_atom model.words atom)
  fact_fits model atom among = All-contains (λ a. IsTrue (is_ground_atom model.words a)) model.init atom (facts_of_model model).init_kept.fit among

  atom_fits : (a : GroundAtom) → Reachable models (Atom a) → IsTrue (is_ground_atom planner.words a)
  atom_fits a (named.Initial atom has) = elim has [
    | inl own ↦ fact_fits planner atom ((fact_is planner Init atom).1 own)
    | inr other ↦ subst (λ w. IsTrue (is_ground_atom w atom)) joint (fact_fits user atom ((fact_is user Init atom).1 other))
  ]
  atom_fits a (named.Added action f reached has) =
      let fits = reached_fits models action reached in
      elim has [
        | inl own ↦ feature_ground planner action fits Add f own
        | inr other ↦ subst (λ w. IsTrue (is_ground_atom w (instance action.objects f))) joint (feature_ground user action (subst (λ w. IsGroundAction w action) (sym joint) fits) Add f other)
      ]

  module _ (atoms : List GroundAtom) (actions : List GroundAction) (lists : ListsReachable models atoms actions) where
    pub atoms_fit : All (λ atom. IsTrue (is_ground_atom planner.words atom)) atoms
    atoms_fit = All-weaker (Contains atoms) (λ atom. IsTrue (is_ground_atom planner.words atom)) (λ atom among. atom_fits atom ((lists.each_atom atom).0 among)) atoms (All-contains_itself atoms)

-- ---- a list of distinct things that another has isn't longer than it
abbrev without : {X : Type 0} → ℕ → List X → List X
without k [] = []
without zero (y ∷ ys) = ys
without (suc k) (y ∷ ys) = y ∷ without k ys

one_less : {X : Type 0} (k : ℕ) (ys : List X) → k < length ys → length ys ≡ suc (length (without k ys))
one_less k [] lt = absurd (omega arith)
one_less zero (y ∷ ys) lt = refl
one_less (suc k) (y ∷ ys) lt = ap suc (one_less k ys (omega arith))

still_there : {X : Type 0} (k : ℕ) (ys : List X) (x y : X) → slice_get ys k ≡ Some x → Contains ys y → x ≢ y → Contains (without k ys) y
still_there k [] x y at (j, lt, is) apart = absurd (omega (arith, lt))
still_there zero (z ∷ ys) x y at (zero, lt, is) apart = let same : z ≡ x = cc in absurd (apart (sym same ∙ is))
still_there zero (z ∷ ys) x y at (suc j, lt, is) apart = (j, omega arith, is)
still_there (suc k) (z ∷ ys) x y at (zero, lt, is) apart = (zero, omega arith, is)
still_there (suc k) (z ∷ ys) x y at (suc j, lt, is) apart = let (i, less, same) = still_there k ys x y at (j, omega arith, is) apart in (suc i, omega (arith, less), same)

no_longer : {X : Type 0} (xs ys : List X) → AllPairs (λ x y. x ≢ y) xs → ((x : X) → Contains xs x → Contains ys x) → length xs ≤ length ys
no_longer [] ys apart there = omega arith
no_longer (x ∷ xs) ys apart there =
    let (k, lt, is) = there x (zero, omega arith, refl) in
    let at : slice_get ys k ≡ Some x = slice_get-get_or ys k x lt ∙ ap Some is in
    let rest = no_longer xs (without k ys) (λ i j d less within. apart (suc i) (suc j) d (omega arith) (omega arith)) (λ y among. still_there k ys x y at (there y (later y among)) (differs y among)) in
    let count = one_less k ys lt in
    omega (arith, rest, count)
  where
    later : (y : _) → Contains xs y → Contains (x ∷ xs) y
    later y (i, lt, is) = (suc i, omega arith, is)

    differs : (y : _) → Contains xs y → x ≢ y
    differs y (i, lt, is) same = apart zero (suc i) y (omega arith) (omega arith) (same ∙ sym is)

-- no more things than a limit have a property that only the items of a list have, if the list isn't longer
few_have : {X : Type 0} (limit : ℕ) (P : X → Type 0) (ys : List X) → length ys ≤ limit → ((x : X) → P x → Contains ys x) → rules.MoreThan limit P → ⊥
few_have limit P ys few has (xs, more, apart, all) =
    let count = no_longer xs ys apart (λ x among. has x (All-contains P xs x all among)) in
    omega (arith, count, more, few)

module _ (planner user : Model) (differences : List Difference) where
  pub not_full : (atoms : List GroundAtom) (actions : List GroundAction) → ListsReachable (models_of planner user differences) atoms actions → length atoms ≤ 4096 → length actions ≤ 50000 → IsFull planner user differences → ⊥
  not_full atoms actions lists few_atoms few_actions full = elim full [
    | inl many ↦ few_have 4096 (λ atom. Reachable (models_of planner user differences) (Atom atom)) atoms few_atoms (λ atom reach. (lists.each_atom atom).1 reach) many
    | inr many ↦ few_have 50000 (λ action. Reachable (models_of planner user differences) (Action action)) actions few_actions (λ action reach. (lists.each_action action).1 reach) many
  ]

  -- whether too much is reachable depends on the places of the differences alone
  pub full_alike : (others : List Difference) → places_of differences ≡ places_of others → IsFull planner user differences → IsFull planner user others
  full_alike others same full = subst IsFullAt same full
    where
      models_at : List Place → Models
      models_at places = record { words = planner.words; planner = meaning planner; user = meaning user; places = places }

      IsFullAt : List Place → Type 0
      IsFullAt places =
          rules.MoreThan 4096 (λ atom. Reachable (models_at places) (Atom atom)) ⊎ rules.MoreThan 50000 (λ action. Reachable (models_at places) (Action action))

  -- the limit that is passed by the rules is passed in the models
  pub exceeded : (world : World) (are : AreRulesOf (models_of planner user differences) world) (limits : Limits) → limits.atoms ≡ 4096 → limits.actions ≡ 50000 → (stop : ReachStop) → rules.Exceeds world limits stop → Exceeds planner user differences (stop_of stop)
  exceeded world are limits atoms_are actions_are (stops.TooManyAtoms limit) (same, (xs, more, apart, all)) = (
    same ∙ atoms_are,
    (
      xs,
      omega (arith, more, atoms_are),
      apart,
      All-weaker (λ atom. rules.IsReachable world (rules.Atom atom)) (λ atom. Reachable (models_of planner user differences) (Atom atom)) (λ atom reach. in_models (models_of planner user differences) world are (rules.Atom atom) reach) xs all,
    ),
  )
  exceeded world are limits atoms_are actions_are (stops.TooManyActions limit) (same, (xs, more, apart, all)) = (
    same ∙ actions_are,
    (
      xs,
      omega (arith, more, actions_are),
      apart,
      All-weaker (λ action. rules.IsReachable world (rules.Action action)) (λ action. Reachable (models_of planner user differences) (Action action)) (λ action reach. in_models (models_of planner user differences) world are (rules.Action action) reach) xs all,
    ),
  )
  exceeded world are limits atoms_are actions_are stops.NoMemory is = tt

-- a stop of reachability, reported as a stop of grounding
pub told_on : (P : GroundStop → Type 0) (stop : ReachStop) {T : Type 0} (result : Result T GroundStop) → IsErrAnd result (λ made. made ≡ stop_of stop) → P (stop_of stop) → IfErr result P
told_on P stop (Ok _) is told = tt
told_on P stop (Err made) is told = subst P (sym is) told
