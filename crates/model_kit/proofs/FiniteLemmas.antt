-- A model with finitely many features as a graph: a state is a list of flags over the atoms that can ever be true.
-- A list of ground actions is valid and costs less than a bound exactly where it is a way of the graph to a goal below the bound, so it is decided whether a plan is cheapest.
use Rattle.std.proofs.Common.{◌≡◌, ℕ, ◌+◌, ◌-◌, ◌<◌, ◌≤◌, zero, suc, Bool, true, false, cond, List, [], ◌∷◌, ◌++◌, length, get_or, map, Option, Some, None, refl, sym, ap, subst, ◌∙◌, arith, ⊎_elim, inl, inr}
use Rattle.std.specs.Prelude.{◌⊎◌, ◌||◌, ◌&&◌, not, IsTrue, Contains, All, is_some, unwrap_or}
use Rattle.std.specs.Bool.{Decides}
use Rattle.std.specs.List.{list_any, list_all, flat_map}
use Rattle.std.proofs.lemmas.Bool.{true≢false, cases_Bool, cases_lt, and_parts, and_from, or_cases, or_left, or_right, not_from_false, not-true, false_from_ne_true}
use Rattle.std.proofs.lemmas.List.{length-map}
use Rattle.std.proofs.lemmas.List.Sums.{sum_by-cons}
use Rattle.std.proofs.lemmas.List.Elements.{Contains-append_left, Contains-append_right, All-contains, All-cons, All-head, All-tail}
use Rattle.model_kit.specs.declared.vocabulary.Vocabulary.{Vocabulary}
use Rattle.model_kit.specs.declared.atom.GroundAtom.{GroundAtom}
use Rattle.model_kit.specs.declared.atom.SchemaAtom.{SchemaAtom}
use Rattle.model_kit.specs.declared.action.GroundAction.{GroundAction}
use Rattle.model_kit.specs.Same.{same_atom}
use Rattle.model_kit.specs.Vocabulary.{is_ground_action, IsGroundAction}
use Rattle.model_kit.specs.Places.{Place, Init, Goal, Pre, Add, Del, Meaning}
use Rattle.model_kit.specs.Runs.{State, is_on, Has, instance, cost_of, Needs, Applies, After, Leads, Initial, IsGoal, cost, IsCheapest}
use Rattle.model_kit.proofs.Alike.{same_atom-decides}
use Rattle.model_kit.proofs.Distinct.{all_decides}
use Rattle.model_kit.proofs.RunLemmas.{Alike}
use Rattle.model_kit.proofs.WayLemmas.{Reaches, decided_way}
use Rattle.model_kit.proofs.ListLemmas.{flat_contains, tuples, same_flags, same_flags-decides, both_flags, flags_all, all_actions, ground_listed}
use Rattle.mre_base.proofs.Listed.{map-contains}

-- the features that are on are listed
pub record IsFinite (m : Meaning) : Type 0 where
  pub facts : List GroundAtom
  pub goals : List GroundAtom
  pub pres : ℕ → List SchemaAtom
  pub adds : ℕ → List SchemaAtom
  pub dels : ℕ → List SchemaAtom
  pub init_listed : (a : GroundAtom) → Has m (Init a) → Contains facts a
  pub goal_listed : (a : GroundAtom) → Has m (Goal a) → Contains goals a
  pub pre_listed : (i : ℕ) (f : SchemaAtom) → Has m (Pre i f) → Contains (pres i) f
  pub add_listed : (i : ℕ) (f : SchemaAtom) → Has m (Add i f) → Contains (adds i) f
  pub del_listed : (i : ℕ) (f : SchemaAtom) → Has m (Del i f) → Contains (dels i) f

pub any_says : {X : Type 0} (p : X → Bool) (xs : List X) → list_any p xs ≡ true → (x : X) × (p x ≡ true)
any_says p [] e = absurd (true≢false (sym e))
any_says p (x ∷ xs) e = ⊎_elim (λ here. (x, here)) (λ later. any_says p xs later) (or_cases (p x) (list_any p xs) e)

any_from : {X : Type 0} (p : X → Bool) (xs : List X) (x : X) → Contains xs x → p x ≡ true → list_any p xs ≡ true
any_from p [] x at e = absurd (omega (arith, at.1))
any_from p (y ∷ xs) x (zero, lt, is) e = or_left (p y) (list_any p xs) (ap p is ∙ e)
any_from p (y ∷ xs) x (suc k, lt, is) e = or_right (p y) (list_any p xs) (any_from p xs x (k, omega arith, is) e)

-- each listed thing that is on passes
module _ {X : Type 0} (on passes : X → Bool) where
  abbrev pub each_on : List X → Bool
  each_on xs = list_all (λ x. not (on x) || passes x) xs

  pub each_on_says : (xs : List X) → each_on xs ≡ true → (x : X) → Contains xs x → on x ≡ true → passes x ≡ true
  each_on_says xs e x at is_on_x =
      let here : (not (on x) || passes x) ≡ true = All-contains (λ y. (not (on y) || passes y) ≡ true) xs x ((all_decides (λ y. not (on y) || passes y) (λ y. (not (on y) || passes y) ≡ true) (λ y. (λ h. h, λ h. h)) xs).0 e) at in
      ⊎_elim (λ off. absurd (true≢false (sym is_on_x ∙ not-true (on x) off))) (λ ok. ok) (or_cases (not (on x)) (passes x) here)

  each_on_from : (xs : List X) → ((x : X) → on x ≡ true → passes x ≡ true) → each_on xs ≡ true
  each_on_from xs each =
      (all_decides (λ y. not (on y) || passes y) (λ y. (not (on y) || passes y) ≡ true) (λ y. (λ h. h, λ h. h)) xs).1
      (λ k d lt. ⊎_elim (λ e. or_right (not (on (get_or xs k d))) (passes (get_or xs k d)) (each (get_or xs k d) e))
      (λ e. or_left (not (on (get_or xs k d))) (passes (get_or xs k d)) (not_from_false (on (get_or xs k d)) e)) (cases_Bool (on (get_or xs k d))))

-- the flag of an atom, by the first place at which it is listed
abbrev flag_of : List GroundAtom → List Bool → GroundAtom → Bool
flag_of [] flags a = false
flag_of (x ∷ xs) [] a = false
flag_of (x ∷ xs) (b ∷ bs) a = cond (same_atom x a) b (flag_of xs bs a)

-- flags that come from a test of the atoms
flag_of_test : (f : GroundAtom → Bool) (xs : List GroundAtom) (a : GroundAtom) → flag_of xs (map f xs) a ≡ (list_any (λ x. same_atom x a) xs && f a)
flag_of_test f [] a = refl
flag_of_test f (x ∷ xs) a =
    ap (λ b. cond (same_atom x a) (f x) b) (flag_of_test f xs a) ∙ by (same_atom x a) (f x) (f a) (list_any (λ y. same_atom y a) xs) (λ e. ap f ((same_atom-decides x a).0 e))
  where
    by : (hit fx fa rest : Bool) → (hit ≡ true → fx ≡ fa) → cond hit fx (rest && fa) ≡ ((hit || rest) && fa)
    by true fx fa rest same = same refl
    by false fx fa rest same = refl

atom_any : (xs : List GroundAtom) (a : GroundAtom) → Contains xs a → list_any (λ x. same_atom x a) xs ≡ true
atom_any xs a at = any_from (λ x. same_atom x a) xs a at ((same_atom-decides a a).1 refl)

-- a test of what is listed says the flag
flag_if_listed : (f : GroundAtom → Bool) (xs : List GroundAtom) → ((a : GroundAtom) → f a ≡ true → Contains xs a) → (a : GroundAtom) → Decides (flag_of xs (map f xs) a) (f a ≡ true)
flag_if_listed f xs listed a = (
  λ e. (and_parts (list_any (λ x. same_atom x a) xs) (f a) (sym (flag_of_test f xs a) ∙ e)).1,
  λ e. flag_of_test f xs a ∙ and_from (list_any (λ x. same_atom x a) xs) (f a) (atom_any xs a (listed a e)) e,
)

flag_listed : (xs : List GroundAtom) (flags : List Bool) (a : GroundAtom) → flag_of xs flags a ≡ true → Contains xs a
flag_listed [] flags a e = absurd (true≢false (sym e))
flag_listed (x ∷ xs) [] a e = absurd (true≢false (sym e))
flag_listed (x ∷ xs) (b ∷ bs) a e =
    ⊎_elim (λ hit. (0, omega arith, (same_atom-decides x a).0 hit))
    (λ miss. let at = flag_listed xs bs a (sym (ap (λ t. cond t b (flag_of xs bs a)) miss) ∙ e) in (suc at.0, omega (arith, at.1), at.2))
    (cases_Bool (same_atom x a))

module _ (words : Vocabulary) (m : Meaning) (fin : IsFinite m) where
  -- the atoms that can ever be true
  abbrev pub atoms : List GroundAtom
  atoms = fin.facts ++ flat_map (λ action. map (instance action.objects) (fin.adds action.schema)) (all_actions words)

  abbrev pub holds : List Bool → GroundAtom → Bool
  holds flags a = flag_of atoms flags a

  -- the flags say the state
  abbrev pub Mirrors : State → List Bool → Type 0
  Mirrors s flags = Alike s (λ a. IsTrue (holds flags a))

  abbrev pub start : List Bool
  start = map (λ a. is_on (m (Init a))) atoms

  pub start_mirrors : Mirrors (Initial m) start
  start_mirrors a =
      let decided = flag_if_listed (λ b. is_on (m (Init b))) atoms (λ b on. Contains-append_left fin.facts _ b (fin.init_listed b on)) a in (decided.1, decided.0)

  -- ---- the goal

  abbrev pub at_goal : List Bool → Bool
  at_goal flags = each_on (λ a. is_on (m (Goal a))) (holds flags) fin.goals

  pub goal_says : (s : State) (flags : List Bool) → Mirrors s flags → Decides (at_goal flags) (IsGoal m s)
  goal_says s flags mirrors = (
    λ e a wanted. (mirrors a).1 (each_on_says (λ b. is_on (m (Goal b))) (holds flags) fin.goals e a (fin.goal_listed a wanted) wanted),
    λ goal. each_on_from (λ b. is_on (m (Goal b))) (holds flags) fin.goals (λ a wanted. (mirrors a).0 (goal a wanted)),
  )

  -- ---- a step

  abbrev met : List Bool → GroundAction → Bool
  met flags action = each_on (λ f. is_on (m (Pre action.schema f))) (λ f. holds flags (instance action.objects f)) (fin.pres action.schema)

  -- an action makes an atom by one of the listed atoms of its schema
  abbrev pub makes : (ℕ → SchemaAtom → Place) → List SchemaAtom → GroundAction → GroundAtom → Bool
  makes part fs action a = list_any (λ f. is_on (m (part action.schema f)) && same_atom (instance action.objects f) a) fs

  pub makes_decides : (part : ℕ → SchemaAtom → Place) (fs : List SchemaAtom) (action : GroundAction) → ((f : SchemaAtom) → Has m (part action.schema f) → Contains fs f) → (a : GroundAtom)
      → Decides (makes part fs action a) ((f : SchemaAtom) × Has m (part action.schema f) × (instance action.objects f ≡ a))
  makes_decides part fs action listed a = (
    λ e. let one = any_says (λ f. is_on (m (part action.schema f)) && same_atom (instance action.objects f) a) fs e in
        let parts = and_parts (is_on (m (part action.schema one.0))) (same_atom (instance action.objects one.0) a) one.1 in
        (one.0, parts.0, (same_atom-decides (instance action.objects one.0) a).0 parts.1),
    λ (f, on, is). any_from (λ g. is_on (m (part action.schema g)) && same_atom (instance action.objects g) a) fs f (listed f on)
        (and_from (is_on (m (part action.schema f))) (same_atom (instance action.objects f) a) on ((same_atom-decides (instance action.objects f) a).1 is)),
  )

  abbrev adds_it : GroundAction → GroundAtom → Bool
  adds_it action a = makes Add (fin.adds action.schema) action a

  abbrev deletes_it : GroundAction → GroundAtom → Bool
  deletes_it action a = makes Del (fin.dels action.schema) action a

  abbrev after : List Bool → GroundAction → GroundAtom → Bool
  after flags action a = (holds flags a && not (deletes_it action a)) || adds_it action a

  abbrev pub next : List Bool → GroundAction → List Bool
  next flags action = map (after flags action) atoms

  abbrev pub applies : List Bool → GroundAction → Bool
  applies flags action = is_ground_action words action && (is_some (cost_of m action) && met flags action)

  abbrev step : List Bool → GroundAction → Option (List Bool × ℕ)
  step flags action = cond (applies flags action) (Some (next flags action, unwrap_or (cost_of m action) 0)) None

  met_says : (s : State) (flags : List Bool) (action : GroundAction) → Mirrors s flags → Decides (met flags action) ((a : GroundAtom) → Needs m action a → s a)
  met_says s flags action mirrors = (
    λ e a (f, on, is). (mirrors a).1
        (subst (λ b. holds flags b ≡ true) is (each_on_says (λ g. is_on (m (Pre action.schema g))) (λ g. holds flags (instance action.objects g)) (fin.pres action.schema) e f (fin.pre_listed action.schema f on) on)),
    λ there. each_on_from (λ g. is_on (m (Pre action.schema g))) (λ g. holds flags (instance action.objects g)) (fin.pres action.schema)
        (λ f on. (mirrors (instance action.objects f)).0 (there (instance action.objects f) (f, on, refl))),
  )

  pub applies_says : (s : State) (flags : List Bool) (action : GroundAction) → Mirrors s flags → applies flags action ≡ true → IsGroundAction words action × Applies m s action
  applies_says s flags action mirrors e =
      let parts = and_parts (is_ground_action words action) (is_some (cost_of m action) && met flags action) e in
      let rest = and_parts (is_some (cost_of m action)) (met flags action) parts.1 in
      (parts.0, record { priced = rest.0; met = (met_says s flags action mirrors).0 rest.1 })

  pub applies_from : (s : State) (flags : List Bool) (action : GroundAction) → Mirrors s flags → IsGroundAction words action → Applies m s action → applies flags action ≡ true
  applies_from s flags action mirrors fits app =
      and_from (is_ground_action words action) (is_some (cost_of m action) && met flags action) fits
      (and_from (is_some (cost_of m action)) (met flags action) app.priced ((met_says s flags action mirrors).1 app.met))

  -- what is true after an action is among the atoms
  after_listed : (flags : List Bool) (action : GroundAction) → IsGroundAction words action → (a : GroundAtom) → after flags action a ≡ true → Contains atoms a
  after_listed flags action fits a e =
      ⊎_elim
      (λ kept. flag_listed atoms flags a (and_parts (holds flags a) (not (deletes_it action a)) kept).0)
      (λ added.
      let one = (makes_decides Add (fin.adds action.schema) action (fin.add_listed action.schema) a).0 added in
      Contains-append_right fin.facts (flat_map (λ b. map (instance b.objects) (fin.adds b.schema)) (all_actions words)) a
      (flat_contains (λ b. map (instance b.objects) (fin.adds b.schema)) (all_actions words) action a (ground_listed words action fits)
      (subst (Contains (map (instance action.objects) (fin.adds action.schema))) one.2 (map-contains (instance action.objects) (fin.adds action.schema) one.0 (fin.add_listed action.schema one.0 one.1)))))
      (or_cases (holds flags a && not (deletes_it action a)) (adds_it action a) e)

  -- the flags after an action say the successor
  pub next_mirrors : (s : State) (flags : List Bool) (action : GroundAction) → Mirrors s flags → IsGroundAction words action → Mirrors (After m s action) (next flags action)
  next_mirrors s flags action mirrors fits a =
      let decided = flag_if_listed (after flags action) atoms (after_listed flags action fits) a in
      let adds = makes_decides Add (fin.adds action.schema) action (fin.add_listed action.schema) a in
      let deletes = makes_decides Del (fin.dels action.schema) action (fin.del_listed action.schema) a in (
        λ successor. decided.1 (⊎_elim
            (λ kept. or_left (holds flags a && not (deletes_it action a)) (adds_it action a)
            (and_from (holds flags a) (not (deletes_it action a)) ((mirrors a).0 kept.0) (not_from_false (deletes_it action a) (false_from_ne_true (deletes_it action a) (λ e. kept.1 (deletes.0 e))))))
            (λ added. or_right (holds flags a && not (deletes_it action a)) (adds_it action a) (adds.1 added)) successor),
        λ flagged. ⊎_elim
            (λ kept. let parts = and_parts (holds flags a) (not (deletes_it action a)) kept in
            inl ((mirrors a).1 parts.0, λ gone. true≢false (sym (deletes.1 gone) ∙ not-true (deletes_it action a) parts.1)))
            (λ added. inr (adds.0 added))
            (or_cases (holds flags a && not (deletes_it action a)) (adds_it action a) (decided.0 flagged)),
      )

  -- what a step of the graph says
  step_says : (flags : List Bool) (action : GroundAction) (to : List Bool × ℕ) → step flags action ≡ Some to → (applies flags action ≡ true) × (to ≡ (next flags action, unwrap_or (cost_of m action) 0))
  step_says flags action to is = by (applies flags action) is
    where
      by : (b : Bool) → cond b (Some (next flags action, unwrap_or (cost_of m action) 0)) None ≡ Some to → (b ≡ true) × (to ≡ (next flags action, unwrap_or (cost_of m action) 0))
      by true e = let same : (next flags action, unwrap_or (cost_of m action) 0) ≡ to = cc in (refl, sym same)
      by false e = absurd (cc)

  step_from : (flags : List Bool) (action : GroundAction) → applies flags action ≡ true → step flags action ≡ Some (next flags action, unwrap_or (cost_of m action) 0)
  step_from flags action e = ap (λ b. cond b (Some (next flags action, unwrap_or (cost_of m action) 0)) None) e

  step_listed : (flags : List Bool) (action : GroundAction) (to : List Bool × ℕ) → step flags action ≡ Some to → Contains (all_actions words) action
  step_listed flags action to is =
      let said = step_says flags action to is in
      ground_listed words action (and_parts (is_ground_action words action) (is_some (cost_of m action) && met flags action) said.0).0

  -- ---- valid lists and ways

  abbrev states : List (List Bool)
  states = tuples both_flags (length atoms)

  state_listed : (flags : List Bool) (action : GroundAction) → Contains states (next flags action)
  state_listed flags action = subst (λ n. Contains (tuples both_flags n) (next flags action)) (length-map atoms (after flags action)) (flags_all (next flags action))

  abbrev Way : List Bool → List GroundAction → ℕ → Type 0
  Way flags plan k = Reaches same_flags same_flags-decides step at_goal (Contains states) flags plan k

  cost_cons : (action : GroundAction) (plan : List GroundAction) → cost m (action ∷ plan) ≡ unwrap_or (cost_of m action) 0 + cost m plan
  cost_cons action plan = sum_by-cons (λ a. unwrap_or (cost_of m a) 0) action plan

  -- a valid list that costs less than a bound is a way
  way_from_valid : (plan : List GroundAction) (s : State) (flags : List Bool) (k : ℕ) → Mirrors s flags → All (IsGroundAction words) plan → Leads m s plan (IsGoal m) → cost m plan < k → Way flags plan k
  way_from_valid [] s flags k mirrors ground leads less = ((goal_says s flags mirrors).1 leads, less)
  way_from_valid (action ∷ plan) s flags k mirrors ground leads less =
      let fits = All-head (IsGroundAction words) action plan ground in
      let here = step_from flags action (applies_from s flags action mirrors fits leads.0) in (
        (next flags action, unwrap_or (cost_of m action) 0),
        here,
        state_listed flags action,
        way_from_valid plan (After m s action) (next flags action) (k - unwrap_or (cost_of m action) 0) (next_mirrors s flags action mirrors fits) (All-tail (IsGroundAction words) action plan ground) leads.1 (omega (arith, less, cost_cons action plan)),
      )

  -- a way is a valid list that costs less than the bound
  valid_from_way : (plan : List GroundAction) (s : State) (flags : List Bool) (k : ℕ) → Mirrors s flags → Way flags plan k → All (IsGroundAction words) plan × Leads m s plan (IsGoal m) × (cost m plan < k)
  valid_from_way [] s flags k mirrors way = ((λ i d lt. absurd (omega arith)), (goal_says s flags mirrors).0 way.0, way.1)
  valid_from_way (action ∷ plan) s flags k mirrors way =
      let said = step_says flags action way.0 way.1 in
      let app = applies_says s flags action mirrors said.0 in
      let moved : Way (next flags action) plan (k - unwrap_or (cost_of m action) 0) = subst (λ (to : List Bool × ℕ). Way to.0 plan (k - to.1)) said.1 way.3 in
      let rest = valid_from_way plan (After m s action) (next flags action) (k - unwrap_or (cost_of m action) 0) (next_mirrors s flags action mirrors app.0) moved in
      (All-cons (IsGroundAction words) action plan app.0 rest.0, (app.1, rest.1), omega (arith, rest.2, cost_cons action plan))

  -- it is decided whether one list is a way
  way_known : (plan : List GroundAction) (flags : List Bool) (k : ℕ) → Way flags plan k ⊎ ¬ Way flags plan k
  way_known [] flags k =
      ⊎_elim (λ there. ⊎_elim (λ positive. inl (there, positive)) (λ none. inr (λ way. omega (arith, way.1, none))) (cases_lt 0 k)) (λ missing. inr (λ way. true≢false (sym way.0 ∙ missing))) (cases_Bool (at_goal flags))
  way_known (action ∷ plan) flags k =
      let rest = way_known plan (next flags action) (k - unwrap_or (cost_of m action) 0) in
      ⊎_elim
      (λ e. ⊎_elim
      (λ way. inl ((next flags action, unwrap_or (cost_of m action) 0), step_from flags action e, state_listed flags action, way))
      (λ none. inr (λ way. let said = step_says flags action way.0 way.1 in none (subst (λ (to : List Bool × ℕ). Way to.0 plan (k - to.1)) said.1 way.3)))
      rest)
      (λ e. inr (λ way. let said = step_says flags action way.0 way.1 in true≢false (sym said.0 ∙ e)))
      (cases_Bool (applies flags action))

  -- it is decided whether a plan is cheapest
  pub cheapest_known : (plan : List GroundAction) → All (IsGroundAction words) plan → IsCheapest words m plan ⊎ ¬ IsCheapest words m plan
  cheapest_known plan ground =
      ⊎_elim
      (λ way.
      let valid = valid_from_way plan (Initial m) start (suc (cost m plan)) start_mirrors way in
      ⊎_elim
      (λ cheaper.
      let other = valid_from_way cheaper.0 (Initial m) start (cost m plan) start_mirrors cheaper.1 in
      inr (λ cheapest. omega (arith, cheapest.least cheaper.0 other.0 other.1, other.2)))
      (λ none. inl (record {
        valid = valid.1;
        least = λ other fits runs. ⊎_elim (λ less. absurd (none other (way_from_valid other (Initial m) start (cost m plan) start_mirrors fits runs less))) (λ le. le) (cases_lt (cost m other) (cost m plan));
      }))
      (decided_way same_flags same_flags-decides step at_goal (all_actions words) step_listed states start (cost m plan)))
      (λ none. inr (λ cheapest. none (way_from_valid plan (Initial m) start (suc (cost m plan)) start_mirrors ground cheapest.valid (omega arith))))
      (way_known plan start (suc (cost m plan)))

  -- it is decided whether some valid list of ground actions costs less than a bound
  pub cheaper_or_none : (k : ℕ) → ((other : List GroundAction) × All (IsGroundAction words) other × Leads m (Initial m) other (IsGoal m) × (cost m other < k))
      ⊎ ((other : List GroundAction) → All (IsGroundAction words) other → Leads m (Initial m) other (IsGoal m) → k ≤ cost m other)
  cheaper_or_none k =
      ⊎_elim
      (λ way. let valid = valid_from_way way.0 (Initial m) start k start_mirrors way.1 in inl (way.0, valid.0, valid.1, valid.2))
      (λ none. inr (λ other fits runs. ⊎_elim (λ less. absurd (none other (way_from_valid other (Initial m) start k start_mirrors fits runs less))) (λ le. le) (cases_lt (cost m other) k)))
      (decided_way same_flags same_flags-decides step at_goal (all_actions words) step_listed states start k)
