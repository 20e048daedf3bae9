-- Two tests that compute: whether a list of ground actions is valid, and whether distances that are given show that no valid list costs less.
use Rattle.std.proofs.Common.{◌≡◌, ℕ, ◌+◌, ◌-◌, ◌≤◌, suc, Bool, true, List, [], ◌∷◌, refl, subst, arith, ⊎_elim}
use Rattle.std.specs.Prelude.{◌||◌, ◌&&◌, nat_le, nat_lt, nat_eq, All, is_some, unwrap_or}
use Rattle.std.specs.List.{list_any}
use Rattle.std.proofs.lemmas.Bool.{and_parts, and_from, or_cases, eqb-true, leb-true}
use Rattle.std.proofs.lemmas.List.Sums.{sum_by-cons}
use Rattle.std.proofs.lemmas.List.Elements.{All-cons, All-head, All-tail}
use Rattle.model_kit.specs.declared.vocabulary.Vocabulary.{Vocabulary}
use Rattle.model_kit.specs.declared.atom.GroundAtom.{GroundAtom}
use Rattle.model_kit.specs.declared.atom.SchemaAtom.{SchemaAtom}
use Rattle.model_kit.specs.declared.action.GroundAction.{GroundAction}
use Rattle.model_kit.specs.Vocabulary.{is_ground_action, IsGroundAction}
use Rattle.model_kit.specs.Places.{Init, Goal, Pre, Add, Meaning}
use Rattle.model_kit.specs.Runs.{State, is_on, instance, cost_of, Adds, Applies, After, Leads, Initial, IsGoal, IsValid, cost, IsCheapest}
use Rattle.model_kit.proofs.ListLemmas.{all_actions, ground_listed}
use Rattle.model_kit.proofs.FiniteLemmas.{IsFinite, any_says, each_on, each_on_says, Mirrors, start, start_mirrors, at_goal, goal_says, applies, applies_says, applies_from, next, next_mirrors}

-- ---- a list of ground actions is tried

module _ (words : Vocabulary) (m : Meaning) (fin : IsFinite m) where
  abbrev pub runs : List Bool → List GroundAction → Bool
  runs flags [] = at_goal words m fin flags
  runs flags (action ∷ plan) = applies words m fin flags action && runs (next words m fin flags action) plan

  runs_says : (s : State) (flags : List Bool) (plan : List GroundAction) → Mirrors words m fin s flags → runs flags plan ≡ true → All (IsGroundAction words) plan × Leads m s plan (IsGoal m)
  runs_says s flags [] mirrors e = ((λ i d lt. absurd (omega arith)), (goal_says words m fin s flags mirrors).0 e)
  runs_says s flags (action ∷ plan) mirrors e =
      let parts = and_parts (applies words m fin flags action) (runs (next words m fin flags action) plan) e in
      let app = applies_says words m fin s flags action mirrors parts.0 in
      let rest = runs_says (After m s action) (next words m fin flags action) plan (next_mirrors words m fin s flags action mirrors app.0) parts.1 in
      (All-cons (IsGroundAction words) action plan app.0 rest.0, (app.1, rest.1))

  runs_from : (s : State) (flags : List Bool) (plan : List GroundAction) → Mirrors words m fin s flags → All (IsGroundAction words) plan → Leads m s plan (IsGoal m) → runs flags plan ≡ true
  runs_from s flags [] mirrors ground leads = (goal_says words m fin s flags mirrors).1 leads
  runs_from s flags (action ∷ plan) mirrors ground leads =
      let fits = All-head (IsGroundAction words) action plan ground in
      and_from (applies words m fin flags action) (runs (next words m fin flags action) plan)
      (applies_from words m fin s flags action mirrors fits leads.0)
      (runs_from (After m s action) (next words m fin flags action) plan (next_mirrors words m fin s flags action mirrors fits) (All-tail (IsGroundAction words) action plan ground) leads.1)

  -- a test of ground actions that are valid
  abbrev pub is_valid : List GroundAction → Bool
  is_valid plan = runs (start words m fin) plan

  pub is_valid-says : (plan : List GroundAction) → is_valid plan ≡ true → All (IsGroundAction words) plan × IsValid m plan
  is_valid-says plan e = runs_says (Initial m) (start words m fin) plan (start_mirrors words m fin) e

  pub is_valid-from : (plan : List GroundAction) → All (IsGroundAction words) plan → IsValid m plan → is_valid plan ≡ true
  is_valid-from plan ground valid = runs_from (Initial m) (start words m fin) plan (start_mirrors words m fin) ground valid

-- ---- a number that falls by at most each step's cost, and is 0 at the goal, is a bound of the cost

module _ (words : Vocabulary) (m : Meaning) (Low : State → ℕ → Type 0)
    (ends : (s : State) (k : ℕ) → Low s k → IsGoal m s → k ≡ 0)
    (falls : (s : State) (k : ℕ) (action : GroundAction) → Low s k → IsGroundAction words action → Applies m s action → Low (After m s action) (k - unwrap_or (cost_of m action) 0)) where
  pub bounded : (s : State) (k : ℕ) (plan : List GroundAction) → Low s k → All (IsGroundAction words) plan → Leads m s plan (IsGoal m) → k ≤ cost m plan
  bounded s k [] low ground leads = omega (arith, ends s k low leads)
  bounded s k (action ∷ plan) low ground leads =
      let rest = bounded (After m s action) (k - unwrap_or (cost_of m action) 0) plan (falls s k action low (All-head (IsGroundAction words) action plan ground) leads.0) (All-tail (IsGroundAction words) action plan ground) leads.1 in
      omega (arith, rest, sum_by-cons (λ a. unwrap_or (cost_of m a) 0) action plan)

-- ---- a distance from each atom to the goal, and one from every state

module _ (words : Vocabulary) (m : Meaning) (fin : IsFinite m) (base : ℕ) (distance : GroundAtom → ℕ) where
  abbrev price : GroundAction → ℕ
  price action = unwrap_or (cost_of m action) 0

  -- what adds the atom starts no nearer than its price
  abbrev is_far : GroundAction → SchemaAtom → Bool
  is_far action f =
      nat_le base (price action + distance (instance action.objects f))
      || list_any (λ p. is_on (m (Pre action.schema p)) && nat_le (distance (instance action.objects p)) (price action + distance (instance action.objects f))) (fin.pres action.schema)

  abbrev keeps : GroundAction → Bool
  keeps action = each_on (λ f. is_on (m (Add action.schema f))) (is_far action) (fin.adds action.schema)

  -- each ground action that has a cost keeps the distances, a goal atom is at distance 0, and no initial fact is nearer than k
  abbrev pub is_bound : ℕ → Bool
  is_bound k =
      nat_eq k 0
      || (nat_le k base
      && each_on (λ a. is_on (m (Init a))) (λ a. nat_le k (distance a)) fin.facts
      && list_any (λ a. is_on (m (Goal a)) && nat_eq (distance a) 0) fin.goals
      && each_on (λ action. is_ground_action words action && is_some (cost_of m action)) keeps (all_actions words))

  abbrev Far : State → ℕ → Type 0
  Far s k = (k ≤ base) × ((a : GroundAtom) → s a → k ≤ distance a)

  module _ (goal : list_any (λ a. is_on (m (Goal a)) && nat_eq (distance a) 0) fin.goals ≡ true)
      (each : each_on (λ action. is_ground_action words action && is_some (cost_of m action)) keeps (all_actions words) ≡ true) where
    ends : (s : State) (k : ℕ) → Far s k → IsGoal m s → k ≡ 0
    ends s k far at_end =
        let one = any_says (λ a. is_on (m (Goal a)) && nat_eq (distance a) 0) fin.goals goal in
        let parts = and_parts (is_on (m (Goal one.0))) (nat_eq (distance one.0) 0) one.1 in
        omega (arith, far.1 one.0 (at_end one.0 parts.0), eqb-true (distance one.0) 0 parts.1)

    falls : (s : State) (k : ℕ) (action : GroundAction) → Far s k → IsGroundAction words action → Applies m s action → Far (After m s action) (k - price action)
    falls s k action far ground app = (omega (arith, far.0), λ a. ⊎_elim (λ kept. omega (arith, far.1 a kept.0)) (λ added. reached a added))
      where
        kept_far : keeps action ≡ true
        kept_far = each_on_says (λ b. is_ground_action words b && is_some (cost_of m b)) keeps (all_actions words) each action (ground_listed words action ground) (and_from (is_ground_action words action) (is_some (cost_of m action)) ground app.priced)

        reached : (a : GroundAtom) → Adds m action a → k - price action ≤ distance a
        reached a (f, on, is) =
            let e = each_on_says (λ g. is_on (m (Add action.schema g))) (is_far action) (fin.adds action.schema) kept_far f (fin.add_listed action.schema f on) on in
            subst (λ b. k - price action ≤ distance b) is
            (⊎_elim
            (λ near. omega (arith, far.0, leb-true base (price action + distance (instance action.objects f)) near))
            (λ some.
            let one = any_says (λ p. is_on (m (Pre action.schema p)) && nat_le (distance (instance action.objects p)) (price action + distance (instance action.objects f))) (fin.pres action.schema) some in
            let parts = and_parts (is_on (m (Pre action.schema one.0))) (nat_le (distance (instance action.objects one.0)) (price action + distance (instance action.objects f))) one.1 in
            omega (arith, far.1 (instance action.objects one.0) (app.met (instance action.objects one.0) (one.0, parts.0, refl)), leb-true (distance (instance action.objects one.0)) (price action + distance (instance action.objects f)) parts.1))
            (or_cases (nat_le base (price action + distance (instance action.objects f))) _ e))

  -- a bound of the cost of each valid list
  pub is_bound-says : (k : ℕ) → is_bound k ≡ true → (other : List GroundAction) → All (IsGroundAction words) other → IsValid m other → k ≤ cost m other
  is_bound-says k e other ground valid = ⊎_elim (λ none. omega (arith, eqb-true k 0 none)) by (or_cases (nat_eq k 0) _ e)
    where
      by : (nat_le k base && each_on (λ a. is_on (m (Init a))) (λ a. nat_le k (distance a)) fin.facts && list_any (λ a. is_on (m (Goal a)) && nat_eq (distance a) 0) fin.goals && each_on (λ action. is_ground_action words action && is_some (cost_of m action)) keeps (all_actions words)) ≡ true → k ≤ cost m other
      by parts =
          let first = and_parts (nat_le k base && each_on (λ a. is_on (m (Init a))) (λ a. nat_le k (distance a)) fin.facts && list_any (λ a. is_on (m (Goal a)) && nat_eq (distance a) 0) fin.goals) _ parts in
          let second = and_parts (nat_le k base && each_on (λ a. is_on (m (Init a))) (λ a. nat_le k (distance a)) fin.facts) _ first.0 in
          let third = and_parts (nat_le k base) _ second.0 in
          let far : Far (Initial m) k = (leb-true k base third.0, λ a on. leb-true k (distance a) (each_on_says (λ b. is_on (m (Init b))) (λ b. nat_le k (distance b)) fin.facts third.1 a (fin.init_listed a on) on)) in
          bounded words m Far (ends second.1 first.1) (falls second.1 first.1) (Initial m) k other far ground valid

  -- a plan is cheapest, by distances
  abbrev pub is_cheapest : List GroundAction → Bool
  is_cheapest plan = is_valid words m fin plan && is_bound (cost m plan)

  pub is_cheapest-says : (plan : List GroundAction) → is_cheapest plan ≡ true → IsCheapest words m plan
  is_cheapest-says plan e =
      let parts = and_parts (is_valid words m fin plan) (is_bound (cost m plan)) e in
      record { valid = (is_valid-says words m fin plan parts.0).1; least = is_bound-says (cost m plan) parts.1 }

-- a plan isn't cheapest, by a list that is valid and costs less
module _ (words : Vocabulary) (m : Meaning) (fin : IsFinite m) where
  abbrev pub is_cheaper : List GroundAction → List GroundAction → Bool
  is_cheaper other plan = is_valid words m fin other && nat_lt (cost m other) (cost m plan)

  pub is_cheaper-says : (other plan : List GroundAction) → is_cheaper other plan ≡ true → ¬ IsCheapest words m plan
  is_cheaper-says other plan e cheapest =
      let parts = and_parts (is_valid words m fin other) (nat_lt (cost m other) (cost m plan)) e in
      let runs = is_valid-says words m fin other parts.0 in
      omega (arith, cheapest.least other runs.0 runs.1, leb-true (suc (cost m other)) (cost m plan) parts.1)
