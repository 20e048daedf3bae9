-- What a table of two models keeps: its atoms and differences are in their ranges, no difference decides a cost twice, and none is both in a condition on what is told and in one on what is left.
use Rattle.std.proofs.Common.{◌≡◌, ℕ, ◌+◌, ◌≤◌, ◌&&◌, ◌||◌, Bool, true, false, not, cond, Option, None, Some, List, [], ◌∷◌, ◌++◌, length, map, get_or, ◌∙◌, inl, inr, refl, sym, ap, subst, arith}
use Rattle.std.specs.Prelude.{All, Contains, slice_get, IsSome, is_some, nat_le, nat_eq}
use Rattle.cube_kit.specs.Cubes.{Told}
use Rattle.std.proofs.lemmas.Bool.{true≢false, and_from, or_cases, eqb-true, le-leb}
use Rattle.std.proofs.lemmas.List.{length_push}
use Rattle.std.proofs.lemmas.List.Elements.{All-weaker, All-contains_itself}
use Rattle.std.proofs.lemmas.Option.{slice_get-get_or, slice_get_within}
use Rattle.cube_kit.specs.Cubes.{is_listed}
use Rattle.model_kit.specs.declared.atom.GroundAtom.{GroundAtom}
use Rattle.model_kit.specs.declared.atom.SchemaAtom.{SchemaAtom}
use Rattle.model_kit.specs.declared.action.GroundAction.{GroundAction}
use Rattle.model_kit.specs.declared.model.CostExpr.TheVariants.{Number, Call}
use Rattle.model_kit.specs.Places.{Place, Init, Goal, Pre, Add, Del, Knows, Cost, Value, Content, Feature, Price, Worth, Nothing}
use Rattle.model_kit.specs.Runs.{Has, is_on, instance, object_of, price_of, cost_of}
use Rattle.model_kit.proofs.NumberLemmas.{number_at, number_one}
use Rattle.task_kit.proofs.PlaceLemmas.{push_cases}
use Rattle.case_kit.specs.declared.cases.When.{When}
use Rattle.case_kit.specs.declared.cases.When.TheVariants.{Always, IfTold, IfLeft}
use Rattle.case_kit.specs.declared.cases.Case.{Case}
use Rattle.case_kit.specs.declared.costs.CaseValue.{CaseValue}
use Rattle.case_kit.specs.declared.costs.CaseValue.TheVariants as values
use Rattle.case_kit.specs.declared.costs.CaseCost.{CaseCost}
use Rattle.case_kit.specs.declared.costs.CaseCost.TheVariants as costs
use Rattle.case_kit.specs.declared.action.CaseAction.{CaseAction}
use Rattle.case_kit.specs.Parts.{stands_in_value, stands_in_cost}
use Rattle.case_kit.specs.Sound.{is_listed_in, is_value_listed, is_cost_listed, is_apart, is_beside, IsCase, IsCaseAction, IsCaseTable, StandsAmong, StandsIn, Stands}
use Rattle.named_tables.specs.Models.{Models, EitherHas, after_told}
use Rattle.named_tables.specs.Numbered.{ListsReachable}
use Rattle.named_tables.specs.Reachable.{Reachable, Action, Initial, Enabled, Added}
use Rattle.named_tables.specs.Tables.{number_in, IsNumber, IsWhen, IsWorth, IsValue, IsCostOf, AreCases, IsActionOf}
use Rattle.named_tables.proofs.CaseLemmas.{either_has}
use Rattle.named_tables.proofs.NumberLemmas.{number_most, number_listed}
use Rattle.pair_tables.specs.Made.{AreActionsUpTo, AreActionsOf, MayBeDone}
use Rattle.mre_base.proofs.Listed.{item_contained}
use Rattle.mre_base.proofs.Tests.{not_so}
use Rattle.mre_base.proofs.Options.{one_item}

module _ (models : Models) where
  abbrev d : ℕ
  d = length models.places

  -- ---- numbers of differences are listed
  number_is_listed : (p : Place) (n : ℕ) → IsNumber models p n → is_listed d n ≡ true
  number_is_listed p n is =
      let (j, far, at) = number_at 1 models.places p n is in
      let lt = slice_get_within models.places j p at in
      and_from (nat_le 1 n) (nat_le n d) (le-leb 1 n (omega (arith, far))) (le-leb n d (omega (arith, far, lt)))

  when_is_listed : (p : Place) (when : When) → IsWhen models p when → is_listed_in d when ≡ true
  when_is_listed p Always is = refl
  when_is_listed p (IfTold n) (is, own, other) = number_is_listed p n is
  when_is_listed p (IfLeft n) (is, own, other) = number_is_listed p n is

  pub when_either : (p : Place) (when : When) → IsWhen models p when → EitherHas models p
  when_either p Always (own, other) = inl own
  when_either p (IfTold n) (is, own, lacks) = inl own
  when_either p (IfLeft n) (is, lacks, other) = inr other

  worth_is_listed : (p : Place) (value : CaseValue) → IsWorth models p value → is_value_listed d value ≡ true
  worth_is_listed p (values.One value) is = refl
  worth_is_listed p (values.Two n told left) (is, planner, user) = number_is_listed p n is

  value_is_listed : (objects : List ℕ) (content : Content) (value : CaseValue) → IsValue models objects content value → is_value_listed d value ≡ true
  value_is_listed objects (Price (Number n)) value is = ap (is_value_listed d) is
  value_is_listed objects (Price (Call f args)) value is = worth_is_listed (Value f (map (object_of objects) args)) value is
  value_is_listed objects (Feature on) value is = ap (is_value_listed d) is
  value_is_listed objects (Worth worth) value is = ap (is_value_listed d) is
  value_is_listed objects Nothing value is = ap (is_value_listed d) is

  cost_listed : (action : GroundAction) (cost : CaseCost) → IsCostOf models action cost → is_cost_listed d cost ≡ true
  cost_listed action (costs.One value) (same, is) = value_is_listed action.objects (models.planner (Cost action.schema)) value is
  cost_listed action (costs.Two n told left) (is, told_is, left_is) =
      and_from (is_listed d n) (is_value_listed d told && is_value_listed d left) (number_is_listed (Cost action.schema) n is)
      (and_from (is_value_listed d told) (is_value_listed d left) (value_is_listed action.objects (models.planner (Cost action.schema)) told told_is) (value_is_listed action.objects (models.user (Cost action.schema)) left left_is))

  -- ---- the number in a cost is that of its own place or of a value
  worth_number : (f : ℕ) (xs : List ℕ) (value : CaseValue) (k : ℕ) → IsWorth models (Value f xs) value → stands_in_value value k ≡ true → IsNumber models (Value f xs) k
  worth_number f xs (values.One value) k is stands = absurd (true≢false (sym stands))
  worth_number f xs (values.Two n told left) k (is, planner, user) stands = subst (IsNumber models (Value f xs)) (eqb-true n k stands) is

  abbrev IsValueNumber : ℕ → Type 0
  IsValueNumber k = (f : ℕ) × (xs : List ℕ) × IsNumber models (Value f xs) k

  value_number : (objects : List ℕ) (content : Content) (value : CaseValue) (k : ℕ) → IsValue models objects content value → stands_in_value value k ≡ true → IsValueNumber k
  value_number objects (Price (Number n)) value k is stands = absurd (true≢false (sym stands ∙ ap (λ v. stands_in_value v k) is))
  value_number objects (Price (Call f args)) value k is stands = (f, map (object_of objects) args, worth_number f (map (object_of objects) args) value k is stands)
  value_number objects (Feature on) value k is stands = absurd (true≢false (sym stands ∙ ap (λ v. stands_in_value v k) is))
  value_number objects (Worth worth) value k is stands = absurd (true≢false (sym stands ∙ ap (λ v. stands_in_value v k) is))
  value_number objects Nothing value k is stands = absurd (true≢false (sym stands ∙ ap (λ v. stands_in_value v k) is))

  -- a cost, a value and whether an action is known are at different places
  no_value : (p : Place) (k : ℕ) → IsNumber models p k → IsValueNumber k → (f : ℕ) × (xs : List ℕ) × (p ≡ Value f xs)
  no_value p k is (f, xs, other) = (f, xs, number_one models.places p (Value f xs) k is other)

  cost_apart : (action : GroundAction) (cost : CaseCost) → IsCostOf models action cost → is_apart cost ≡ true
  cost_apart action (costs.One value) is = refl
  cost_apart action (costs.Two n told left) (is, told_is, left_is) =
      and_from (not (stands_in_value told n)) (not (stands_in_value left n))
      (not_so (stands_in_value told n) (λ stands. apart (value_number action.objects (models.planner (Cost action.schema)) told n told_is stands)))
      (not_so (stands_in_value left n) (λ stands. apart (value_number action.objects (models.user (Cost action.schema)) left n left_is stands)))
    where
      apart : IsValueNumber n → ⊥
      apart number = let (f, xs, same) = no_value (Cost action.schema) n is number in absurd (cc)

  cost_beside : (action : GroundAction) (cost : CaseCost) (k : ℕ) → IsCostOf models action cost → IsNumber models (Knows action.schema) k → stands_in_cost cost k ≡ true → ⊥
  cost_beside action (costs.One value) k (same, is) known stands =
      let (f, xs, place) = no_value (Knows action.schema) k known (value_number action.objects (models.planner (Cost action.schema)) value k is stands) in absurd (cc)
  cost_beside action (costs.Two n told left) k (is, told_is, left_is) known stands =
      elim (or_cases (nat_eq n k) (stands_in_value told k || stands_in_value left k) stands) [
        | inl here ↦
            let same : Knows action.schema ≡ Cost action.schema = number_one models.places (Knows action.schema) (Cost action.schema) k known (subst (IsNumber models (Cost action.schema)) (eqb-true n k here) is) in
            absurd (cc)
        | inr inside ↦ elim (or_cases (stands_in_value told k) (stands_in_value left k) inside) [
          | inl one ↦ apart (value_number action.objects (models.planner (Cost action.schema)) told k told_is one)
          | inr two ↦ apart (value_number action.objects (models.user (Cost action.schema)) left k left_is two)
        ]
      ]
    where
      apart : IsValueNumber k → ⊥
      apart number = let (f, xs, same) = no_value (Knows action.schema) k known number in absurd (cc)

  beside : (action : GroundAction) (cost : CaseCost) (known : When) → IsCostOf models action cost → IsWhen models (Knows action.schema) known → is_beside cost known ≡ true
  beside action cost Always of is = refl
  beside action cost (IfTold n) of (is, own, other) = not_so (stands_in_cost cost n) (cost_beside action cost n of is)
  beside action cost (IfLeft n) of (is, own, other) = not_so (stands_in_cost cost n) (cost_beside action cost n of is)

  -- ---- actions that some model knows
  known_by : (b : Bool) (action : GroundAction) (told : Told) → is_on (after_told models told (Knows action.schema)) ≡ b → IsSome (cost_of (after_told models told) action) → b ≡ true
  known_by true action told is some = refl
  known_by false action told is some = absurd (true≢false (sym some ∙ ap (λ c. is_some (cond c (price_of (after_told models told) action.objects (after_told models told (Cost action.schema))) None)) is))

  pub done : (action : GroundAction) → Reachable models (Action action) → MayBeDone models action
  done action (Enabled a fits (told, some) needs) = record {
    fits = fits;
    known = either_has models told (Knows action.schema) (known_by (is_on (after_told models told (Knows action.schema))) action told refl some);
  }

  -- ---- one more action
  pub actions_more : (number : GroundAtom → ℕ) (actions : List GroundAction) (i : ℕ) (action : GroundAction) → slice_get actions i ≡ Some action → (old new : List CaseAction) (cases : CaseAction) → AreActionsUpTo models number actions i old
      → IsActionOf models number action cases → new ≡ old ++ cases ∷ [] → AreActionsUpTo models number actions (i + 1) new
  actions_more number actions i action here old new cases before is now = record {
    counted = ap length now ∙ length_push old cases ∙ ap (λ n. n + 1) before.counted;
    each = λ k other made at made_at. elim (push_cases old cases k made (sym (ap (λ list. slice_get list k) now) ∙ made_at)) [
      | inl earlier ↦ before.each k other made at earlier
      | inr (last, same) ↦
          let one : action ≡ other = one_item (slice_get actions i) action other here (ap (slice_get actions) (sym (last ∙ before.counted)) ∙ at) in
          subst (λ a. IsActionOf models number a made) one (subst (IsActionOf models number action) (sym same) is)
    ];
  }

  module _ (atoms : List GroundAtom) (actions : List GroundAction) (reachable : ListsReachable models atoms actions) where
    abbrev number : GroundAtom → ℕ
    number = number_in atoms

    -- what is at first, and what a listed action adds, is listed
    case_below : (F : Type 0) (place : F → Place) (atom : F → GroundAtom) (cases : List Case) → AreCases models number F place atom cases
        → ((f : F) → EitherHas models (place f) → Contains atoms (atom f)) → All (IsCase d (length atoms)) cases
    case_below F place atom cases are there =
        All-weaker (Contains cases) (IsCase d (length atoms))
        (λ case among.
        let (f, (named, when)) = are.each case among in
        record {
          below = let lt = number_listed atoms (atom f) (there f (when_either (place f) case.when when)) in omega (arith, named, lt);
          listed = when_is_listed (place f) case.when when;
        })
        cases (All-contains_itself cases)

    case_most : (F : Type 0) (place : F → Place) (atom : F → GroundAtom) (cases : List Case) → AreCases models number F place atom cases → All (IsCase d (length atoms + 1)) cases
    case_most F place atom cases are =
        All-weaker (Contains cases) (IsCase d (length atoms + 1))
        (λ case among.
        let (f, (named, when)) = are.each case among in
        record {
          below = let le = number_most atoms (atom f) in omega (arith, named, le);
          listed = when_is_listed (place f) case.when when;
        })
        cases (All-contains_itself cases)

    action_sound : (action : GroundAction) (cases : CaseAction) → Contains actions action → IsActionOf models number action cases → IsCaseAction d (length atoms) cases
    action_sound action cases among of = record {
      pre = case_most SchemaAtom (Pre action.schema) (instance action.objects) cases.pre of.pre;
      add = case_below SchemaAtom (Add action.schema) (instance action.objects) cases.add of.add
          (λ f has. (reachable.each_atom (instance action.objects f)).1 (Added action f ((reachable.each_action action).0 among) has));
      del = case_most SchemaAtom (Del action.schema) (instance action.objects) cases.del of.del;
      cost = cost_listed action cases.cost of.cost;
      known = when_is_listed (Knows action.schema) cases.known of.known;
      apart = cost_apart action cases.cost of.cost;
      beside = beside action cases.cost cases.known of.cost of.known;
    }

    -- ---- no difference is both of what is told and of what is left
    module _ (start goal : List Case) (made : List CaseAction)
        (starts : AreCases models number GroundAtom Init (λ atom. atom) start) (goals : AreCases models number GroundAtom Goal (λ atom. atom) goal)
        (are : AreActionsOf models number actions made) where
      of_action : (cases : CaseAction) → Contains made cases → (action : GroundAction) × Contains actions action × IsActionOf models number action cases
      of_action cases (k, lt, is) =
          let none : GroundAction = record { schema = 0; objects = [] } in
          let same = are.counted in
          let at = slice_get-get_or actions k none (omega (arith, lt, same)) in
          (get_or actions k none, item_contained actions k (get_or actions k none) at, are.each k (get_or actions k none) cases at (slice_get-get_or made k cases lt ∙ ap Some is))

      among_when : (F : Type 0) (place : F → Place) (atom : F → GroundAtom) (cases : List Case) → AreCases models number F place atom cases → (when : When) → StandsAmong cases when → (p : Place) × IsWhen models p when
      among_when F place atom cases are when (case, among, same) = let (f, (named, is)) = are.each case among in (place f, subst (IsWhen models (place f)) same is)

      action_when : (action : GroundAction) (cases : CaseAction) → IsActionOf models number action cases → (when : When) → StandsIn cases when → (p : Place) × IsWhen models p when
      action_when action cases of when stands = elim stands [
        | inl pre ↦ among_when SchemaAtom (Pre action.schema) (instance action.objects) cases.pre of.pre when pre
        | inr (inl add) ↦ among_when SchemaAtom (Add action.schema) (instance action.objects) cases.add of.add when add
        | inr (inr (inl del)) ↦ among_when SchemaAtom (Del action.schema) (instance action.objects) cases.del of.del when del
        | inr (inr (inr known)) ↦ (Knows action.schema, subst (IsWhen models (Knows action.schema)) known of.known)
      ]

      stands_when : (when : When) → Stands start goal made when → (p : Place) × IsWhen models p when
      stands_when when stands = elim stands [
        | inl first ↦ among_when GroundAtom Init (λ atom. atom) start starts when first
        | inr (inl last) ↦ among_when GroundAtom Goal (λ atom. atom) goal goals when last
        | inr (inr (cases, among, inside)) ↦ let (action, listed, of) = of_action cases among in action_when action cases of when inside
      ]

      pub table_sound : d ≤ 256 → length atoms ≤ 4096 → length actions ≤ 50000 → IsCaseTable d (length atoms) start goal made
      table_sound few few_atoms few_actions = record {
        few_differences = few;
        few_atoms = few_atoms;
        few_actions = let same = are.counted in omega (arith, same, few_actions);
        starts = case_below GroundAtom Init (λ atom. atom) start starts (λ f has. (reachable.each_atom f).1 (Initial f has));
        goals = case_most GroundAtom Goal (λ atom. atom) goal goals;
        each = All-weaker (Contains made) (IsCaseAction d (length atoms)) (λ cases among. let (action, listed, of) = of_action cases among in action_sound action cases listed of) made (All-contains_itself made);
        one_way = λ n told left.
            let (p, (p_is, p_own, p_other)) = stands_when (IfTold n) told in
            let (q, (q_is, q_own, q_other)) = stands_when (IfLeft n) left in
            q_own (subst (Has models.planner) (number_one models.places p q n p_is q_is) p_own);
      }

-- likewise by numbers that are looked up
module _ (models : Models) (atoms : List GroundAtom) (actions : List GroundAction) (reachable : ListsReachable models atoms actions) (number : GroundAtom → ℕ) (same : (atom : GroundAtom) → number atom ≡ number_in atoms atom)
    (start goal : List Case) (made : List CaseAction) where
  abbrev one : number ≡ number_in atoms
  one = λ i atom. same atom i

  pub cases_in : (place : GroundAtom → Place) (cases : List Case) → AreCases models number GroundAtom place (λ atom. atom) cases → AreCases models (number_in atoms) GroundAtom place (λ atom. atom) cases
  cases_in place cases are = subst (λ n. AreCases models n GroundAtom place (λ atom. atom) cases) one are

  pub actions_in : AreActionsOf models number actions made → AreActionsOf models (number_in atoms) actions made
  actions_in are = subst (λ n. AreActionsOf models n actions made) one are

  pub built : (d count : ℕ) → d ≡ length models.places → count ≡ length atoms → AreCases models number GroundAtom Init (λ atom. atom) start → AreCases models number GroundAtom Goal (λ atom. atom) goal
      → AreActionsOf models number actions made → length models.places ≤ 256 → length atoms ≤ 4096 → length actions ≤ 50000 → IsCaseTable d count start goal made
  built d count d_is count_is starts goals are few few_atoms few_actions =
      subst (λ n. IsCaseTable n count start goal made) (sym d_is)
      (subst (λ n. IsCaseTable (length models.places) n start goal made) (sym count_is)
      (table_sound models atoms actions reachable start goal made (cases_in Init start starts) (cases_in Goal goal goals) (actions_in are) few few_atoms few_actions))
