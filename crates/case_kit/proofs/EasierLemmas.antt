-- Tasks that are easier than others: a list that is valid in one is valid in the other, at no
-- greater cost. A member is between the two tasks of its cube, and those of an inner cube are
-- between those of an outer one.
use Rattle.std.proofs.Common.{◌≡◌, ℕ, ◌≤◌, Bool, true, false, ◌&&◌, ◌||◌, not, cond, is_some, List, [], ◌∷◌, Option, None, Some, unwrap_or, refl, sym, ◌∙◌, arith, subst, inl, inr}
use Rattle.std.specs.Prelude.{slice_get}
use Rattle.std.specs.FinSet as set
use Rattle.std.specs.FinSet.{is_subset-contains, contains-is_subset}
use Rattle.std.specs.Cmp.{nat_cmp_total}
use Rattle.std.proofs.lemmas.Bool.{and_parts, and_from, or_cases, or_left, or_right, false≢true, not-true, not_from_false, false_from_ne_true}
use Rattle.cube_kit.specs.Cubes.{Told, CubeMeaning, is_member, is_inside}
use Rattle.cube_kit.proofs.CubeLemmas.{member_lacks}
use Rattle.task_kit.specs.Tasks.{Numbers, ActionMeaning, TaskMeaning, set_of, no_action, action_at, cost_at, price, applies, after, IsValidFrom, IsValid, cost_of}
use Rattle.task_kit.proofs.StepLemmas.{contains-after}
use Rattle.case_kit.specs.declared.way.Way.{Way}
use Rattle.case_kit.specs.declared.way.Way.TheVariants.{Permissive, Restrictive}
use Rattle.case_kit.specs.declared.cases.When.{When}
use Rattle.case_kit.specs.declared.cases.When.TheVariants.{Always, IfTold, IfLeft}
use Rattle.case_kit.specs.declared.cases.Case.{Case}
use Rattle.case_kit.specs.declared.costs.CaseValue.{CaseValue}
use Rattle.case_kit.specs.declared.costs.CaseValue.TheVariants as values
use Rattle.case_kit.specs.declared.costs.CaseCost.{CaseCost}
use Rattle.case_kit.specs.declared.costs.CaseCost.TheVariants as costs
use Rattle.case_kit.specs.declared.action.CaseAction.{CaseAction}
use Rattle.case_kit.specs.declared.table.CaseTable.{CaseTable}
use Rattle.case_kit.specs.Members.{holds, known_cost_after, member}
use Rattle.case_kit.specs.Relaxed.{IsNoDearer}
use Rattle.case_kit.specs.Evaluated.{atoms_where, action_where, task_where, may_hold, must_hold, best_of, value_by, cost_by, known_cost_by, permissive, restrictive}
use Rattle.case_kit.specs.Laws.{IsValidWithin, ListLaw}
use Rattle.case_kit.proofs.BestLemmas.{Bounds, bounds-itself, bounds-trans, best_first, best_second, best_picks}
use Rattle.case_kit.proofs.CaseLists.{in_where, where_has}
use Rattle.case_kit.proofs.MemberLemmas.{must_holds, holds_may}
use Rattle.case_kit.proofs.PriceLemmas.{decided, known_bound}
use Rattle.case_kit.proofs.RelaxedLemmas.{action_there, action_nowhere}

-- every number of the first set is in the second
abbrev IsPart : Numbers → Numbers → Type 0
IsPart s t = (k : ℕ) → set.contains s k ≡ true → set.contains t k ≡ true

-- the second action has no other preconditions or deletes, all the adds of the first, and no
-- greater cost
pub record IsEasierAction (a b : ActionMeaning) : Type 0 where
  pub pre : IsPart b.pre a.pre
  pub add : IsPart a.add b.add
  pub del : IsPart b.del a.del
  pub cost : IsNoDearer b.cost a.cost

pub record IsEasier (t u : TaskMeaning) : Type 0 where
  pub start : IsPart t.start u.start
  pub goal : IsPart u.goal t.goal
  pub each : (i : ℕ) → IsEasierAction (action_at t i) (action_at u i)

-- ---- lists
pub cheaper : (x y : Option ℕ) → IsNoDearer x y → is_some y ≡ true → (is_some x ≡ true) × (unwrap_or x 0 ≤ unwrap_or y 0)
cheaper x None less there = absurd (false≢true there)
cheaper None (Some n) less there = absurd less
cheaper (Some m) (Some n) less there = (refl, less)

module _ (t u : TaskMeaning) (easier : IsEasier t u) where
  part_of_both : (x y x' y' z z' : Bool) → (x ≡ true → x' ≡ true) → (y' ≡ true → y ≡ true) → (z ≡ true → z' ≡ true) → ((x && not y) || z) ≡ true → ((x' && not y') || z') ≡ true
  part_of_both x y x' y' z z' hx hy hz h = elim (or_cases _ _ h) [
    | inl stays ↦ or_left _ _ (and_from _ _ (hx (and_parts _ _ stays).0) (not_from_false _ (false_from_ne_true y' (λ deleted. false≢true (sym (not-true y (and_parts _ _ stays).1) ∙ hy deleted)))))
    | inr added ↦ or_right _ _ (hz added)
  ]

  after_part : (i : ℕ) (s s' : Numbers) → IsPart s s' → IsPart (after t i s) (after u i s')
  after_part i s s' part k there =
      contains-after u i s' k
      ∙ part_of_both (set.contains s k) (set.contains (action_at t i).del k) (set.contains s' k) (set.contains (action_at u i).del k) (set.contains (action_at t i).add k) (set.contains (action_at u i).add k)
      (part k) ((easier.each i).del k) ((easier.each i).add k) (sym (contains-after t i s k) ∙ there)

  applies_too : (i : ℕ) (s s' : Numbers) → IsPart s s' → applies t i s ≡ true → applies u i s' ≡ true
  applies_too i s s' part does =
      and_from _ _ (cheaper (cost_at u i) (cost_at t i) (easier.each i).cost (and_parts _ _ does).0).0
      (contains-is_subset nat_cmp_total (action_at u i).pre s' (λ k needed. part k (is_subset-contains nat_cmp_total (action_at t i).pre s (and_parts _ _ does).1 k ((easier.each i).pre k needed))))

  cheaper_too : (i : ℕ) (s : Numbers) → applies t i s ≡ true → price u i ≤ price t i
  cheaper_too i s does = (cheaper (cost_at u i) (cost_at t i) (easier.each i).cost (and_parts _ _ does).0).1

  easier_from : (s s' : Numbers) (list : List ℕ) → IsPart s s' → IsValidFrom t s list → IsValidFrom u s' list × (cost_of u list ≤ cost_of t list)
  easier_from s s' [] part valid =
      (contains-is_subset nat_cmp_total u.goal s' (λ k wanted. part k (is_subset-contains nat_cmp_total t.goal s valid k (easier.goal k wanted))), omega arith)
  easier_from s s' (i ∷ list) part valid =
      let rest = easier_from (after t i s) (after u i s') list (after_part i s s' part) valid.1 in
      ((applies_too i s s' part valid.0, rest.0), omega (arith, rest.1, cheaper_too i s valid.0))

  pub easier_list : (list : List ℕ) → IsValid t list → IsValidWithin u list (cost_of t list)
  easier_list list valid = easier_from t.start u.start list easier.start valid

-- ---- tasks of a table
module _ (helps hinders : When → Bool) (cost : CaseAction → Option ℕ) (helps' hinders' : When → Bool) (cost' : CaseAction → Option ℕ) where
  more_where : (test test' : When → Bool) (cases : List Case) → ((when : When) → test when ≡ true → test' when ≡ true) → IsPart (set_of (atoms_where test cases)) (set_of (atoms_where test' cases))
  more_where test test' cases more k there =
      let taken = in_where test cases k there in
      subst (λ q. set.contains (set_of (atoms_where test' cases)) q ≡ true) taken.3 (where_has test' cases taken.0 taken.1 (more taken.0.when taken.2))

  pub easier_where : (table : CaseTable) → ((when : When) → helps when ≡ true → helps' when ≡ true) → ((when : When) → hinders' when ≡ true → hinders when ≡ true) → ((a : CaseAction) → IsNoDearer (cost' a) (cost a))
      → IsEasier (task_where helps hinders cost table) (task_where helps' hinders' cost' table)
  easier_where table more less cheap =
      record { start = more_where helps helps' table.start more; goal = more_where hinders' hinders table.goal less; each = λ i. by i (slice_get table.actions i) refl }
    where
      along : (i : ℕ) (a b : ActionMeaning) → action_at (task_where helps hinders cost table) i ≡ a → action_at (task_where helps' hinders' cost' table) i ≡ b → IsEasierAction a b
          → IsEasierAction (action_at (task_where helps hinders cost table) i) (action_at (task_where helps' hinders' cost' table) i)
      along i a b ea eb is = subst (λ (p : ActionMeaning × ActionMeaning). IsEasierAction p.0 p.1) (λ j. (sym ea j, sym eb j)) is

      by : (i : ℕ) (o : Option CaseAction) → slice_get table.actions i ≡ o → IsEasierAction (action_at (task_where helps hinders cost table) i) (action_at (task_where helps' hinders' cost' table) i)
      by i None at = along i no_action no_action (action_nowhere helps hinders cost table i at) (action_nowhere helps' hinders' cost' table i at) (record { pre = λ k h. h; add = λ k h. h; del = λ k h. h; cost = tt })
      by i (Some a) at = along i (action_where helps hinders cost a) (action_where helps' hinders' cost' a) (action_there helps hinders cost table i a at) (action_there helps' hinders' cost' table i a at) (record {
        pre = more_where hinders' hinders a.pre less;
        add = more_where helps helps' a.add more;
        del = more_where hinders' hinders a.del less;
        cost = cheap a;
      })

-- ---- an inner cube
module _ (inner outer : CubeMeaning) (live : is_member inner inner.told ≡ true) (inside : is_inside inner outer ≡ true) where
  told_in : (k : ℕ) → set.contains outer.told k ≡ true → set.contains inner.told k ≡ true
  told_in k told = is_subset-contains nat_cmp_total outer.told inner.told (and_parts _ _ inside).0 k told

  left_in : (k : ℕ) → set.contains outer.left k ≡ true → set.contains inner.left k ≡ true
  left_in k left = is_subset-contains nat_cmp_total outer.left inner.left (and_parts _ _ inside).1 k left

  lacks_more : (a b : Bool) → (a ≡ true → b ≡ true) → not b ≡ true → not a ≡ true
  lacks_more true b h e = absurd (false≢true (sym (not-true b e) ∙ h refl))
  lacks_more false b h e = refl

  pub may_outer : (when : When) → may_hold inner when ≡ true → may_hold outer when ≡ true
  may_outer Always may = refl
  may_outer (IfTold place) may = lacks_more _ _ (left_in place) may
  may_outer (IfLeft place) may = lacks_more _ _ (told_in place) may

  pub must_inner : (when : When) → must_hold outer when ≡ true → must_hold inner when ≡ true
  must_inner Always must = refl
  must_inner (IfTold place) must = told_in place must
  must_inner (IfLeft place) must = left_in place must

  -- a number decided later is within the bound
  later_bound : (way : Way) (told left told' left' : Bool) (x y : Option ℕ) → (told ≡ true → told' ≡ true) → (left ≡ true → left' ≡ true) → (left' ≡ true → told' ≡ false)
      → Bounds way (decided way told left x y) (decided way told' left' x y)
  later_bound way true left true left' x y h l apart = bounds-itself way x
  later_bound way true left false left' x y h l apart = absurd (false≢true (h refl))
  later_bound way false true true left' x y h l apart = absurd (false≢true (sym (apart (l refl))))
  later_bound way false true false true x y h l apart = bounds-itself way y
  later_bound way false true false false x y h l apart = absurd (false≢true (l refl))
  later_bound way false false true left' x y h l apart = best_first way x y
  later_bound way false false false true x y h l apart = best_second way x y
  later_bound way false false false false x y h l apart = bounds-itself way (best_of way x y)

  best_bound : (way : Way) (x y x' y' : Option ℕ) → Bounds way x x' → Bounds way y y' → Bounds way (best_of way x y) (best_of way x' y')
  best_bound way x y x' y' bx by =
      elim (best_picks way x' y') [
        | inl first ↦ subst (Bounds way (best_of way x y)) (sym first) (bounds-trans way (best_of way x y) x x' (best_first way x y) bx)
        | inr second ↦ subst (Bounds way (best_of way x y)) (sym second) (bounds-trans way (best_of way x y) y y' (best_second way x y) by)
      ]

  same_bound : (way : Way) (told left : Bool) (x y x' y' : Option ℕ) → Bounds way x x' → Bounds way y y' → Bounds way (decided way told left x y) (decided way told left x' y')
  same_bound way true left x y x' y' bx by = bx
  same_bound way false true x y x' y' bx by = by
  same_bound way false false x y x' y' bx by = best_bound way x y x' y' bx by

  at_place : (way : Way) (place : ℕ) (x y : Option ℕ)
      → Bounds way (decided way (set.contains outer.told place) (set.contains outer.left place) x y) (decided way (set.contains inner.told place) (set.contains inner.left place) x y)
  at_place way place x y =
      later_bound way (set.contains outer.told place) (set.contains outer.left place) (set.contains inner.told place) (set.contains inner.left place) x y (told_in place) (left_in place) (member_lacks inner inner.told live place)

  value_inner : (way : Way) (value : CaseValue) → Bounds way (value_by way outer value) (value_by way inner value)
  value_inner way (values.One value) = bounds-itself way value
  value_inner way (values.Two place told left) = at_place way place told left

  cost_inner : (way : Way) (cost : CaseCost) → Bounds way (cost_by way outer cost) (cost_by way inner cost)
  cost_inner way (costs.One value) = value_inner way value
  cost_inner way (costs.Two place told left) =
      bounds-trans way (cost_by way outer (costs.Two place told left)) (decided way (set.contains inner.told place) (set.contains inner.left place) (value_by way outer told) (value_by way outer left)) (cost_by way inner (costs.Two place told left))
      (at_place way place (value_by way outer told) (value_by way outer left))
      (same_bound way (set.contains inner.told place) (set.contains inner.left place) (value_by way outer told) (value_by way outer left) (value_by way inner told) (value_by way inner left) (value_inner way told) (value_inner way left))

  low_inner : (a : CaseAction) → IsNoDearer (known_cost_by Permissive outer a) (known_cost_by Permissive inner a)
  low_inner a = by (may_hold inner a.known) refl where
    by : (b : Bool) → may_hold inner a.known ≡ b → IsNoDearer (known_cost_by Permissive outer a) (cond b (cost_by Permissive inner a.cost) None)
    by false off = tt
    by true on = subst (λ b. IsNoDearer (cond b (cost_by Permissive outer a.cost) None) (cost_by Permissive inner a.cost)) (sym (may_outer a.known on)) (cost_inner Permissive a.cost)

  high_inner : (a : CaseAction) → IsNoDearer (known_cost_by Restrictive inner a) (known_cost_by Restrictive outer a)
  high_inner a = by (must_hold outer a.known) refl where
    by : (b : Bool) → must_hold outer a.known ≡ b → IsNoDearer (known_cost_by Restrictive inner a) (cond b (cost_by Restrictive outer a.cost) None)
    by false off = tt
    by true on = subst (λ b. IsNoDearer (cond b (cost_by Restrictive inner a.cost) None) (cost_by Restrictive outer a.cost)) (sym (must_inner a.known on)) (cost_inner Restrictive a.cost)

  pub inner_permissive : (table : CaseTable) → IsEasier (permissive table inner) (permissive table outer)
  inner_permissive table =
      easier_where (may_hold inner) (must_hold inner) (known_cost_by Permissive inner) (may_hold outer) (must_hold outer) (known_cost_by Permissive outer) table may_outer must_inner low_inner

  pub inner_restrictive : (table : CaseTable) → IsEasier (restrictive table outer) (restrictive table inner)
  inner_restrictive table =
      easier_where (must_hold outer) (may_hold outer) (known_cost_by Restrictive outer) (must_hold inner) (may_hold inner) (known_cost_by Restrictive inner) table must_inner may_outer high_inner

-- ---- a member
module _ (table : CaseTable) (cube : CubeMeaning) (told : Told) (is : is_member cube told ≡ true) where
  pub member_permissive : IsEasier (member table told) (permissive table cube)
  member_permissive =
      easier_where (holds told) (holds told) (known_cost_after told) (may_hold cube) (must_hold cube) (known_cost_by Permissive cube) table (λ when on. holds_may cube told when is on) (λ when must. must_holds cube told when is must)
      (λ a. known_bound Permissive cube told a is)

  pub member_restrictive : IsEasier (restrictive table cube) (member table told)
  member_restrictive =
      easier_where (must_hold cube) (may_hold cube) (known_cost_by Restrictive cube) (holds told) (holds told) (known_cost_after told) table (λ when must. must_holds cube told when is must) (λ when on. holds_may cube told when is on)
      (λ a. known_bound Restrictive cube told a is)

pub list_law : ListLaw
list_law =
    record {
      from_member = λ table cube told list is valid. easier_list (member table told) (permissive table cube) (member_permissive table cube told is) list valid;
      to_member = λ table cube told list is valid. easier_list (restrictive table cube) (member table told) (member_restrictive table cube told is) list valid;
      from_inner = λ table inner outer list live inside valid. easier_list (permissive table inner) (permissive table outer) (inner_permissive inner outer live inside table) list valid;
      to_inner = λ table inner outer list live inside valid. easier_list (restrictive table outer) (restrictive table inner) (inner_restrictive inner outer live inside table) list valid;
    }
