-- The small pair: its reachable atoms and actions, and its table.
use Rattle.std.proofs.Common.{◌≡◌, ℕ, zero, suc, true, List, [], ◌∷◌, length, Some, None, unwrap_or, refl, sym, ap, ◌∙◌, arith, subst, inl, inr}
use Rattle.std.specs.Prelude.{Contains, slice_get}
use Rattle.std.specs.Cmp.Lexicographic.{pointwise}
use Rattle.std.specs.FinSet as set
use Rattle.std.proofs.lemmas.Bool.{true≢false}
use Rattle.model_kit.specs.declared.atom.GroundAtom.{GroundAtom}
use Rattle.model_kit.specs.declared.atom.SchemaAtom.{SchemaAtom}
use Rattle.model_kit.specs.declared.action.GroundAction.{GroundAction}
use Rattle.model_kit.specs.Same.{same_atom, same_schema_atom}
use Rattle.model_kit.specs.Places.{Place, Init, Goal, Pre, Add, Del}
use Rattle.model_kit.specs.Vocabulary.{is_object_of, is_ground_action}
use Rattle.model_kit.specs.Runs.{Has, instance}
use Rattle.model_kit.proofs.Alike.{same_atom-decides, same_schema_atom-decides}
use Rattle.model_kit.proofs.StepLemmas.{listed_from_any}
use Rattle.case_kit.specs.declared.cases.When.TheVariants.{Always, IfLeft}
use Rattle.case_kit.specs.declared.action.CaseAction.{CaseAction}
use Rattle.case_kit.specs.declared.table.CaseTable.{CaseTable}
use Rattle.mre_base.proofs.Loops.{contains_here}
use Rattle.named_tables.specs.Models.{EitherHas}
use Rattle.named_tables.specs.Reachable.{Thing, Atom, Action, Reachable, Initial, Enabled, Added}
use Rattle.named_tables.specs.Numbered.{ListsReachable}
use Rattle.named_tables.specs.Tables.{number_in, IsCaseOf, AreCases, IsActionOf, IsTableOf}
use Rattle.named_tables.specs.Example.{words, p, added, walk, models, case_when, walk_cases, ExampleLaw}
use Rattle.mre_base.proofs.Options.{same_some}

-- ---- lists of one item
one_item : {X : Type 0} (x y : X) → Contains (x ∷ []) y → x ≡ y
one_item x y (zero, lt, e) = e
one_item x y (suc k, lt, e) = absurd (omega arith)

no_item : {X : Type 0} (y : X) → Contains [] y → ⊥
no_item y (k, lt, e) = omega arith

-- ---- what the models have
init_is : (atom : GroundAtom) → EitherHas models (Init atom) → p ≡ atom
init_is atom (inl on) = absurd (true≢false (sym on))
init_is atom (inr on) = one_item p atom (listed_from_any same_atom same_atom-decides atom (p ∷ []) on)

goal_is : (atom : GroundAtom) → EitherHas models (Goal atom) → p ≡ atom
goal_is atom (inl on) = one_item p atom (listed_from_any same_atom same_atom-decides atom (p ∷ []) on)
goal_is atom (inr on) = one_item p atom (listed_from_any same_atom same_atom-decides atom (p ∷ []) on)

add_is : (f : SchemaAtom) → EitherHas models (Add 0 f) → added ≡ f
add_is f (inl on) = one_item added f (listed_from_any same_schema_atom same_schema_atom-decides f (added ∷ []) on)
add_is f (inr on) = one_item added f (listed_from_any same_schema_atom same_schema_atom-decides f (added ∷ []) on)

no_pre : (f : SchemaAtom) → EitherHas models (Pre 0 f) → ⊥
no_pre f (inl on) = true≢false (sym on)
no_pre f (inr on) = true≢false (sym on)

no_del : (f : SchemaAtom) → EitherHas models (Del 0 f) → ⊥
no_del f (inl on) = true≢false (sym on)
no_del f (inr on) = true≢false (sym on)

-- ---- the only action
no_objects : (objects : List ℕ) → pointwise (is_object_of words) objects [] ≡ true → [] ≡ objects
no_objects [] e = refl
no_objects (x ∷ objects) e = absurd (true≢false (sym e))

is_walk : (schema : ℕ) (objects : List ℕ) → is_ground_action words (record { schema = schema; objects = objects }) ≡ true → walk ≡ record { schema = schema; objects = objects }
is_walk zero objects fits = λ i. record { schema = 0; objects = no_objects objects fits i }
is_walk (suc schema) objects fits = absurd (true≢false (sym fits))

-- ---- the reachable atoms and actions
abbrev Among : Thing → Type 0
Among (Atom atom) = p ≡ atom
Among (Action action) = walk ≡ action

all_among : (thing : Thing) → Reachable models thing → Among thing
all_among (Atom atom) (Initial a there) = init_is a there
all_among (Action action) (Enabled a fits some needs) = is_walk a.schema a.objects fits
all_among (Atom atom) (Added action f reached has) = by action (all_among (Action action) reached) has
  where
    by : (a : GroundAction) → walk ≡ a → EitherHas models (Add a.schema f) → p ≡ instance a.objects f
    by a is on = subst (λ b. EitherHas models (Add b.schema f) → p ≡ instance b.objects f) is (λ h. ap (instance []) (add_is f h)) on

walk_reached : Reachable models (Action walk)
walk_reached = Enabled walk refl (set.empty, refl) (λ f planner user. absurd (no_pre f (inl planner)))

p_reached : Reachable models (Atom p)
p_reached = Initial p (inr refl)

lists_reached : ListsReachable models (p ∷ []) (walk ∷ [])
lists_reached = record {
  each_atom = λ atom. (
    λ listed. subst (λ a. Reachable models (Atom a)) (one_item p atom listed) p_reached,
    λ reached. subst (Contains (p ∷ [])) (all_among (Atom atom) reached) (contains_here p []),
  );
  each_action = λ action. (
    λ listed. subst (λ a. Reachable models (Action a)) (one_item walk action listed) walk_reached,
    λ reached. subst (Contains (walk ∷ [])) (all_among (Action action) reached) (contains_here walk []),
  );
}

-- ---- the table
always_p : (F : Type 0) (place : F → Place) (atom : F → GroundAtom) (f : F) → ((g : F) → EitherHas models (place g) → f ≡ g) → Has models.planner (place f) → Has models.user (place f) → atom f ≡ p
    → AreCases models (number_in (p ∷ [])) F place atom (case_when Always ∷ [])
always_p F place atom f only planner user is = record {
  each = λ case among. (f, subst (IsCaseOf models (number_in (p ∷ [])) (place f) (atom f)) (one_item (case_when Always) case among) (here f refl));
  all = λ g has. (case_when Always, contains_here (case_when Always) [], here g (only g has));
}
  where
    here : (g : F) → f ≡ g → IsCaseOf models (number_in (p ∷ [])) (place g) (atom g) (case_when Always)
    here g same = subst (λ h. IsCaseOf models (number_in (p ∷ [])) (place h) (atom h) (case_when Always)) same (ap (number_in (p ∷ [])) is, (planner, user))

-- no cases where neither model has a feature
no_cases : (F : Type 0) (place : F → Place) (atom : F → GroundAtom) → ((g : F) → EitherHas models (place g) → ⊥) → AreCases models (number_in (p ∷ [])) F place atom []
no_cases F place atom none = record {
  each = λ case among. absurd (no_item case among);
  all = λ g has. absurd (none g has);
}

start_case : IsCaseOf models (number_in (p ∷ [])) (Init p) p (case_when (IfLeft 1))
start_case = (refl, (refl, (λ on. true≢false (sym on)), refl))

start_cases : AreCases models (number_in (p ∷ [])) GroundAtom Init (λ atom. atom) (case_when (IfLeft 1) ∷ [])
start_cases = record {
  each = λ case among. (p, subst (IsCaseOf models (number_in (p ∷ [])) (Init p) p) (one_item (case_when (IfLeft 1)) case among) start_case);
  all = λ g has. (case_when (IfLeft 1), contains_here (case_when (IfLeft 1)) [], subst (λ h. IsCaseOf models (number_in (p ∷ [])) (Init h) h (case_when (IfLeft 1))) (init_is g has) start_case);
}

walk_is : IsActionOf models (number_in (p ∷ [])) walk walk_cases
walk_is = record {
  pre = no_cases SchemaAtom (Pre 0) (instance []) no_pre;
  add = always_p SchemaAtom (Add 0) (instance []) added add_is refl refl refl;
  del = no_cases SchemaAtom (Del 0) (instance []) no_del;
  known = (refl, refl);
  cost = (refl, refl);
}

none_is : {X : Type 0} (x : X) → None ≡ Some x → ⊥
none_is x e = cc

is_table : (table : CaseTable) → table.atoms ≡ 1 → table.start ≡ case_when (IfLeft 1) ∷ [] → table.goal ≡ case_when Always ∷ [] → table.actions ≡ walk_cases ∷ [] → IsTableOf models (p ∷ []) (walk ∷ []) table
is_table table atoms start goal actions = record {
  counted = atoms;
  start = subst (AreCases models (number_in (p ∷ [])) GroundAtom Init (λ atom. atom)) (sym start) start_cases;
  goal = subst (AreCases models (number_in (p ∷ [])) GroundAtom Goal (λ atom. atom)) (sym goal) (always_p GroundAtom Goal (λ atom. atom) p goal_is refl refl refl);
  one_each = ap length actions;
  each = each;
}
  where
    each : (k : ℕ) (action : GroundAction) (cases : CaseAction) → slice_get (walk ∷ []) k ≡ Some action → slice_get table.actions k ≡ Some cases → IsActionOf models (number_in (p ∷ [])) action cases
    each zero action cases at cases_at =
        let one : walk ≡ action = same_some walk action at in
        let two : walk_cases ≡ cases = same_some walk_cases cases (ap (λ list. slice_get list 0) (sym actions) ∙ cases_at) in
        subst (λ (pair : GroundAction × CaseAction). IsActionOf models (number_in (p ∷ [])) pair.0 pair.1) (λ i. (one i, two i)) walk_is
    each (suc k) action cases at cases_at = absurd (none_is action at)

-- the planner's model doesn't have (p) at the start
always_there : (table : CaseTable) → table.start ≡ case_when Always ∷ [] → IsTableOf models (p ∷ []) (walk ∷ []) table → ⊥
always_there table start is =
    let (f, (named, (planner, user))) = is.start.each (case_when Always) (subst (λ list. Contains list (case_when Always)) (sym start) (contains_here (case_when Always) [])) in
    true≢false (sym planner)

pub example_law : ExampleLaw
example_law = record {
  reached = lists_reached;
  without_walk = λ atoms lists. no_item walk ((lists.each_action walk).1 walk_reached);
  is_table = is_table;
  always_there = always_there;
}
