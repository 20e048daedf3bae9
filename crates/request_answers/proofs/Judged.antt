-- Each plan of ground actions is valid in a model, or has a first fault there.
use Rattle.std.proofs.Common.{◌≡◌, ℕ, ◌+◌, Bool, true, false, List, [], ◌∷◌, ◌++◌, length, map, refl, sym, ap, subst, ◌∙◌, ⊎_elim, inl, inr}
use Rattle.std.specs.Prelude.{◌⊎◌, All, Contains, IsNone, IsTrue, is_some}
use Rattle.std.specs.List.{list_any}
use Rattle.std.proofs.lemmas.Bool.{true≢false, cases_Bool}
use Rattle.std.proofs.lemmas.List.Elements.{All-contains, All-head, All-tail}
use Rattle.mre_base.proofs.Listed.{map-contains}
use Rattle.model_kit.specs.declared.vocabulary.Vocabulary.{Vocabulary}
use Rattle.model_kit.specs.declared.atom.GroundAtom.{GroundAtom}
use Rattle.model_kit.specs.declared.action.GroundAction.{GroundAction}
use Rattle.model_kit.specs.declared.model.Model.{Model}
use Rattle.model_kit.specs.declared.judging.NamedJudgement.TheVariants.{Fails, NoCost, GoalMissing}
use Rattle.model_kit.specs.Same.{same_atom, same_schema_atom}
use Rattle.model_kit.specs.Vocabulary.{is_ground_atom, is_schema_atom, IsGroundAction}
use Rattle.model_kit.specs.Places.{Goal, Pre, Meaning, meaning}
use Rattle.model_kit.specs.Printed.{atom_form}
use Rattle.model_kit.specs.Differences.{IsPrintedBefore}
use Rattle.model_kit.specs.Runs.{State, Has, instance, cost_of, Needs, Applies, After, Leads, Initial, IsGoal, IsValid}
use Rattle.model_kit.specs.Judgement.{IsFirstPrinted, Lacks, IsOpen, Judges}
use Rattle.model_kit.proofs.Alike.{same_atom-decides, same_schema_atom-decides}
use Rattle.model_kit.proofs.ActionLemmas.{signature_of, instance_ground, schema_kept}
use Rattle.model_kit.proofs.FiniteLemmas.{IsFinite, holds, Mirrors, start, start_mirrors, makes, makes_decides, next, next_mirrors}
use Rattle.model_kit.proofs.FormLemmas.{atom_form-injective}
use Rattle.model_kit.proofs.ModelFacts.{facts_of_model}
use Rattle.model_kit.proofs.PatchedLemmas.{listed_atoms, has_listed}
use Rattle.model_kit.proofs.StepLemmas.{listed_from_any}
use Rattle.model_kit.proofs.TypeLemmas.{entry_passes}
use Rattle.joint_models.proofs.Sorting.{IsFirstOf, first_known, texts_trans, texts_total}

-- a model lists its features
abbrev pub finite_model : (model : Model) → IsFinite (meaning model)
finite_model model = record {
  facts = model.init;
  goals = model.goal;
  pres = listed_atoms (λ s. s.pre) model;
  adds = listed_atoms (λ s. s.add) model;
  dels = listed_atoms (λ s. s.del) model;
  init_listed = λ a. listed_from_any same_atom same_atom-decides a model.init;
  goal_listed = λ a. listed_from_any same_atom same_atom-decides a model.goal;
  pre_listed = has_listed (λ s. s.pre) model;
  add_listed = has_listed (λ s. s.add) model;
  del_listed = has_listed (λ s. s.del) model;
}

-- what is wrong with a plan in a model
pub data IsWrong (model : Model) (plan : List GroundAction) : Type 0 where
  fails : (step : ℕ) (atom : GroundAtom) → Judges model.words (meaning model) plan (Fails step atom) → IsWrong model plan
  unpriced : (step : ℕ) → Judges model.words (meaning model) plan (NoCost step) → IsWrong model plan
  missing : (atom : GroundAtom) → Judges model.words (meaning model) plan (GoalMissing atom) → IsWrong model plan

module _ (model : Model) where
  abbrev words : Vocabulary
  words = model.words

  abbrev m : Meaning
  m = meaning model

  abbrev IsGround : GroundAtom → Type 0
  IsGround atom = IsTrue (is_ground_atom words atom)

  abbrev fin : IsFinite m
  fin = finite_model model

  -- what a ground action needs is a ground atom, and so is a goal fact
  needed_ground : (action : GroundAction) → IsGroundAction words action → (atom : GroundAtom) → Needs m action atom → IsGround atom
  needed_ground action fits atom (f, on, is) =
      let entry = entry_passes (λ s. list_any (same_schema_atom f) s.pre) model.schemas action.schema on in
      let kept = schema_kept model action fits entry.0 entry.1 in
      let listed = listed_from_any same_schema_atom same_schema_atom-decides f entry.0.pre entry.2 in
      subst IsGround is (instance_ground model action fits f (All-contains (λ g. IsTrue (is_schema_atom words (signature_of model action fits).0.params g)) entry.0.pre f kept.pre_kept.fit listed))

  goal_ground : (atom : GroundAtom) → Has m (Goal atom) → IsGround atom
  goal_ground atom on = All-contains IsGround model.goal atom (facts_of_model model).goal_kept.fit (listed_from_any same_atom same_atom-decides atom model.goal on)

  abbrev Before : GroundAtom → GroundAtom → Type 0
  Before a b = IsPrintedBefore (atom_form words a) (atom_form words b)

  before_trans : (a b c : GroundAtom) → Before a b → Before b c → Before a c
  before_trans a b c = texts_trans (atom_form words a) (atom_form words b) (atom_form words c)

  module _ (s : State) (flags : List Bool) (mirrors : Mirrors words m fin s flags) where
    state_known : (atom : GroundAtom) → s atom ⊎ ¬ s atom
    state_known atom =
        ⊎_elim (λ yes. inl ((mirrors atom).1 yes)) (λ no. inr (λ there. true≢false (sym ((mirrors atom).0 there) ∙ no))) (cases_Bool (holds words m fin flags atom))

    -- of listed atoms that are asked for, all are in the state, or one is the first that is missing
    module _ (Asked : GroundAtom → Type 0) (asked_known : (atom : GroundAtom) → Asked atom ⊎ ¬ Asked atom) (ground : (atom : GroundAtom) → Asked atom → IsGround atom)
        (listed : List GroundAtom) (all : (atom : GroundAtom) → Asked atom → Contains listed atom) where
      abbrev Missing : GroundAtom → Type 0
      Missing atom = Asked atom × ¬ s atom

      missing_known : (atom : GroundAtom) → Missing atom ⊎ ¬ Missing atom
      missing_known atom = by (asked_known atom) (state_known atom)
        where
          by : Asked atom ⊎ ¬ Asked atom → s atom ⊎ ¬ s atom → Missing atom ⊎ ¬ Missing atom
          by (inl asked) (inl there) = inr (λ missing. missing.1 there)
          by (inl asked) (inr away) = inl (asked, away)
          by (inr other) there = inr (λ missing. other missing.0)

      missing_total : (a b : GroundAtom) → Missing a → Missing b → (a ≡ b) ⊎ (Before a b ⊎ Before b a)
      missing_total a b one two =
          ⊎_elim (λ is. inl (atom_form-injective words a b (ground a one.0) (ground b two.0) is)) (λ apart. inr apart) (texts_total (atom_form words a) (atom_form words b))

      first_missing : ((atom : GroundAtom) → Asked atom → s atom) ⊎ ((atom : GroundAtom) × IsFirstPrinted words Missing atom)
      first_missing = by (first_known Before before_trans Missing missing_total missing_known listed)
        where
          by : ((atom : GroundAtom) → Contains listed atom → ¬ Missing atom) ⊎ ((atom : GroundAtom) × IsFirstOf Before before_trans Missing missing_total listed atom)
              → ((atom : GroundAtom) → Asked atom → s atom) ⊎ ((atom : GroundAtom) × IsFirstPrinted words Missing atom)
          by (inl none) = inl (λ atom asked. ⊎_elim (λ there. there) (λ away. absurd (none atom (all atom asked) (asked, away))) (state_known atom))
          by (inr (atom, is)) = inr (
            atom,
            record {
              has = is.has;
              first = λ other missing apart. ⊎_elim (λ same. absurd (apart (sym same))) (λ before. before) (is.first other (all other missing.0) missing);
            },
          )

    needs_known : (action : GroundAction) (atom : GroundAtom) → Needs m action atom ⊎ ¬ Needs m action atom
    needs_known action atom =
        let decides = makes_decides words m fin Pre (fin.pres action.schema) action (fin.pre_listed action.schema) atom in
        ⊎_elim (λ yes. inl (decides.0 yes)) (λ no. inr (λ needs. true≢false (sym (decides.1 needs) ∙ no))) (cases_Bool (makes words m fin Pre (fin.pres action.schema) action atom))

    first_lacked : (action : GroundAction) → IsGroundAction words action
        → ((atom : GroundAtom) → Needs m action atom → s atom) ⊎ ((atom : GroundAtom) × IsFirstPrinted words (Lacks m action s) atom)
    first_lacked action fits =
        first_missing (Needs m action) (needs_known action) (needed_ground action fits) (map (instance action.objects) (fin.pres action.schema))
        (λ atom needs. subst (Contains (map (instance action.objects) (fin.pres action.schema))) needs.2 (map-contains (instance action.objects) (fin.pres action.schema) needs.0 (fin.pre_listed action.schema needs.0 needs.1)))

    goal_known : (atom : GroundAtom) → Has m (Goal atom) ⊎ ¬ Has m (Goal atom)
    goal_known atom = ⊎_elim (λ yes. inl yes) (λ no. inr (λ on. true≢false (sym on ∙ no))) (cases_Bool (list_any (same_atom atom) model.goal))

    first_open : IsGoal m s ⊎ ((atom : GroundAtom) × IsFirstPrinted words (IsOpen m s) atom)
    first_open = first_missing (λ atom. Has m (Goal atom)) goal_known goal_ground model.goal fin.goal_listed

  -- why a step doesn't apply
  abbrev Stuck : State → List GroundAction → GroundAction → Type 0
  Stuck s before action =
      ((atom : GroundAtom) × Leads m s before (λ t. IsFirstPrinted words (Lacks m action t) atom))
      ⊎ (IsNone (cost_of m action) × Leads m s before (λ t. (atom : GroundAtom) → Needs m action atom → t atom))

  -- the steps stop at one of them
  record Stops (s : State) (plan : List GroundAction) : Type 0 where
    before : List GroundAction
    after : List GroundAction
    action : GroundAction
    split : plan ≡ before ++ action ∷ after
    why : Stuck s before action

  abbrev Judged : State → List GroundAction → Type 0
  Judged s plan = Leads m s plan (IsGoal m) ⊎ (((atom : GroundAtom) × Leads m s plan (λ t. IsFirstPrinted words (IsOpen m t) atom)) ⊎ Stops s plan)

  one_more : (s : State) (action : GroundAction) (plan : List GroundAction) → Applies m s action → Judged (After m s action) plan → Judged s (action ∷ plan)
  one_more s action plan applies (inl valid) = inl (applies, valid)
  one_more s action plan applies (inr (inl (atom, leads))) = inr (inl (atom, (applies, leads)))
  one_more s action plan applies (inr (inr stop)) = inr (inr (record {
    before = action ∷ stop.before;
    after = stop.after;
    action = stop.action;
    split = ap (λ rest. action ∷ rest) stop.split;
    why = ⊎_elim (λ lacks. inl (lacks.0, (applies, lacks.1))) (λ none. inr (none.0, (applies, none.1))) stop.why;
  }))

  judged : (plan : List GroundAction) (s : State) (flags : List Bool) → Mirrors words m fin s flags → All (IsGroundAction words) plan → Judged s plan
  judged [] s flags mirrors fits = ⊎_elim (λ goal. inl goal) (λ open_goal. inr (inl open_goal)) (first_open s flags mirrors)
  judged (action ∷ plan) s flags mirrors fits =
      let fit = All-head (IsGroundAction words) action plan fits in
      by (first_lacked s flags mirrors action fit) (cases_Bool (is_some (cost_of m action)))
      (judged plan (After m s action) (next words m fin flags action) (next_mirrors words m fin s flags action mirrors fit) (All-tail (IsGroundAction words) action plan fits))
    where
      by : ((atom : GroundAtom) → Needs m action atom → s atom) ⊎ ((atom : GroundAtom) × IsFirstPrinted words (Lacks m action s) atom)
          → (is_some (cost_of m action) ≡ true) ⊎ (is_some (cost_of m action) ≡ false) → Judged (After m s action) plan → Judged s (action ∷ plan)
      by (inr lacks) priced rest = inr (inr (record { before = []; after = plan; action = action; split = refl; why = inl lacks }))
      by (inl met) (inr none) rest = inr (inr (record { before = []; after = plan; action = action; split = refl; why = inr (none, met) }))
      by (inl met) (inl some) rest = one_more s action plan (record { priced = some; met = met }) rest

  pub valid_or_wrong : (plan : List GroundAction) → All (IsGroundAction words) plan → IsValid m plan ⊎ IsWrong model plan
  valid_or_wrong plan fits = by (judged plan (Initial m) (start words m fin) (start_mirrors words m fin) fits)
    where
      stopped : (stop : Stops (Initial m) plan) → Stuck (Initial m) stop.before stop.action → IsWrong model plan
      stopped stop (inl lacks) =
          fails (length stop.before + 1) lacks.0 (stop.action, record { before = stop.before; after = stop.after; split = stop.split; number = refl; leads = lacks.1 })
      stopped stop (inr none) =
          unpriced (length stop.before + 1) (stop.action, none.0, record { before = stop.before; after = stop.after; split = stop.split; number = refl; leads = none.1 })

      by : Judged (Initial m) plan → IsValid m plan ⊎ IsWrong model plan
      by (inl valid) = inl valid
      by (inr (inl (atom, leads))) = inr (missing atom leads)
      by (inr (inr stop)) = inr (stopped stop stop.why)
