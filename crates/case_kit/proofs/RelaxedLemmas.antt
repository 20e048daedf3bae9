-- The tasks that are made case by case are exactly the permissive and the restrictive task of a
-- cube.
use Rattle.std.proofs.Common.{◌≡◌, ℕ, suc, Bool, true, false, List, [], ◌∷◌, length, Option, None, Some, unwrap_or, refl, sym, ap, ◌∙◌, arith, subst}
use Rattle.std.specs.Prelude.{slice_get}
use Rattle.std.specs.Option.{option_map}
use Rattle.std.specs.FinSet as set
use Rattle.std.specs.Ordering.{nat_cmp}
use Rattle.std.specs.FinSet.{contains-empty}
use Rattle.std.proofs.lemmas.Bool.{false≢true}
use Rattle.std.proofs.lemmas.List.{length-map}
use Rattle.std.proofs.lemmas.Option.{slice_get-map}
use Rattle.mre_base.proofs.Listed.{item_contained}
use Rattle.mre_base.proofs.Tests.{same_test}
use Rattle.mre_base.specs.SameSets.{same_members}
use Rattle.cube_kit.specs.Cubes.{Told, CubeMeaning, is_member}
use Rattle.task_kit.specs.Tasks.{Numbers, ActionMeaning, TaskMeaning, no_action, action_at}
use Rattle.case_kit.specs.declared.way.Way.TheVariants.{Permissive, Restrictive}
use Rattle.case_kit.specs.declared.cases.When.{When}
use Rattle.case_kit.specs.declared.action.CaseAction.{CaseAction}
use Rattle.case_kit.specs.declared.table.CaseTable.{CaseTable}
use Rattle.case_kit.specs.Members.{holds, known_cost_after, member}
use Rattle.case_kit.specs.Relaxed.{AreOfSome, AreOfEvery, IsNoDearer, IsLeastCost, IsGreatestCost, IsPermissiveAction, IsRestrictiveAction, IsPermissive, IsRestrictive}
use Rattle.case_kit.specs.Evaluated.{action_where, task_where, may_hold, must_hold, known_cost_by, permissive, restrictive}
use Rattle.case_kit.specs.Laws.{RelaxedLaw}
use Rattle.case_kit.proofs.BestLemmas.{no_dearer-both}
use Rattle.case_kit.proofs.TakenLemmas.{taken_of_some, taken_of_every}
use Rattle.case_kit.proofs.PriceLemmas.{least_cost, greatest_cost}
use Rattle.case_kit.proofs.SoundLemmas.{action_sound, start_one_way, goal_one_way, pre_one_way, add_one_way, del_one_way}

-- ---- the action with a number
module _ (helps hinders : When → Bool) (cost : CaseAction → Option ℕ) (table : CaseTable) (i : ℕ) where
  pub action_there : (a : CaseAction) → slice_get table.actions i ≡ Some a → action_at (task_where helps hinders cost table) i ≡ action_where helps hinders cost a
  action_there a at = ap (λ o. unwrap_or o no_action) (slice_get-map (action_where helps hinders cost) table.actions i ∙ ap (option_map (action_where helps hinders cost)) at)

  pub action_nowhere : slice_get table.actions i ≡ None → action_at (task_where helps hinders cost table) i ≡ no_action
  action_nowhere at = ap (λ o. unwrap_or o no_action) (slice_get-map (action_where helps hinders cost) table.actions i ∙ ap (option_map (action_where helps hinders cost)) at)

-- ---- a part that is absent in each member
module _ (cube : CubeMeaning) (live : is_member cube cube.told ≡ true) where
  empty_some : AreOfSome cube (λ told. set.empty) set.empty
  empty_some k = (λ there. absurd (false≢true (sym (contains-empty nat_cmp k) ∙ there)), λ some. some.2)

  empty_every : AreOfEvery cube (λ told. set.empty) set.empty
  empty_every k = (λ there told is. there, λ each. each cube.told live)

  none_least : IsLeastCost cube (λ told. None) None
  none_least = record { some = (cube.told, live, refl); least = λ told is. tt }

  none_greatest : IsGreatestCost cube (λ told. None) None
  none_greatest = record { some = (cube.told, live, refl); greatest = λ told is. tt }

  none_permissive : IsPermissiveAction cube (λ told. no_action) no_action
  none_permissive = record { pre = empty_every; add = empty_some; del = empty_every; cost = none_least }

  none_restrictive : IsRestrictiveAction cube (λ told. no_action) no_action
  none_restrictive = record { pre = empty_some; add = empty_every; del = empty_some; cost = none_greatest }

-- ---- an action of the table
module _ (table : CaseTable) (cube : CubeMeaning) (live : is_member cube cube.told ≡ true) where
  one_permissive : (i : ℕ) (a : CaseAction) → slice_get table.actions i ≡ Some a
      → IsPermissiveAction cube (λ told. action_where (holds told) (holds told) (known_cost_after told) a) (action_where (may_hold cube) (must_hold cube) (known_cost_by Permissive cube) a)
  one_permissive i a at =
      let sound = action_sound table i a at in
      let among = item_contained table.actions i a at in
      record {
        pre = taken_of_every cube a.pre live (pre_one_way table a among);
        add = taken_of_some cube a.add live;
        del = taken_of_every cube a.del live (del_one_way table a among);
        cost = least_cost cube a live sound.apart sound.beside;
      }

  one_restrictive : (i : ℕ) (a : CaseAction) → slice_get table.actions i ≡ Some a
      → IsRestrictiveAction cube (λ told. action_where (holds told) (holds told) (known_cost_after told) a) (action_where (must_hold cube) (may_hold cube) (known_cost_by Restrictive cube) a)
  one_restrictive i a at =
      let sound = action_sound table i a at in
      let among = item_contained table.actions i a at in
      record {
        pre = taken_of_some cube a.pre live;
        add = taken_of_every cube a.add live (add_one_way table a among);
        del = taken_of_some cube a.del live;
        cost = greatest_cost cube a live sound.apart sound.beside;
      }

  pub each_permissive : (i : ℕ) → IsPermissiveAction cube (λ told. action_at (member table told) i) (action_at (permissive table cube) i)
  each_permissive i = by (slice_get table.actions i) refl where
    along : (of_member : Told → ActionMeaning) (action : ActionMeaning) → ((told : Told) → action_at (member table told) i ≡ of_member told) → action_at (permissive table cube) i ≡ action
        → IsPermissiveAction cube of_member action → IsPermissiveAction cube (λ told. action_at (member table told) i) (action_at (permissive table cube) i)
    along of_member action e e' is =
        subst (λ (p : (Told → ActionMeaning) × ActionMeaning). IsPermissiveAction cube p.0 p.1) (λ j. (λ told. sym (e told) j, sym e' j)) is

    by : (o : Option CaseAction) → slice_get table.actions i ≡ o → IsPermissiveAction cube (λ told. action_at (member table told) i) (action_at (permissive table cube) i)
    by None at = along (λ told. no_action) no_action (λ told. action_nowhere (holds told) (holds told) (known_cost_after told) table i at) (action_nowhere (may_hold cube) (must_hold cube) (known_cost_by Permissive cube) table i at) (none_permissive cube live)
    by (Some a) at = along (λ told. action_where (holds told) (holds told) (known_cost_after told) a) (action_where (may_hold cube) (must_hold cube) (known_cost_by Permissive cube) a)
        (λ told. action_there (holds told) (holds told) (known_cost_after told) table i a at) (action_there (may_hold cube) (must_hold cube) (known_cost_by Permissive cube) table i a at) (one_permissive i a at)

  pub each_restrictive : (i : ℕ) → IsRestrictiveAction cube (λ told. action_at (member table told) i) (action_at (restrictive table cube) i)
  each_restrictive i = by (slice_get table.actions i) refl where
    along : (of_member : Told → ActionMeaning) (action : ActionMeaning) → ((told : Told) → action_at (member table told) i ≡ of_member told) → action_at (restrictive table cube) i ≡ action
        → IsRestrictiveAction cube of_member action → IsRestrictiveAction cube (λ told. action_at (member table told) i) (action_at (restrictive table cube) i)
    along of_member action e e' is =
        subst (λ (p : (Told → ActionMeaning) × ActionMeaning). IsRestrictiveAction cube p.0 p.1) (λ j. (λ told. sym (e told) j, sym e' j)) is

    by : (o : Option CaseAction) → slice_get table.actions i ≡ o → IsRestrictiveAction cube (λ told. action_at (member table told) i) (action_at (restrictive table cube) i)
    by None at = along (λ told. no_action) no_action (λ told. action_nowhere (holds told) (holds told) (known_cost_after told) table i at) (action_nowhere (must_hold cube) (may_hold cube) (known_cost_by Restrictive cube) table i at) (none_restrictive cube live)
    by (Some a) at = along (λ told. action_where (holds told) (holds told) (known_cost_after told) a) (action_where (must_hold cube) (may_hold cube) (known_cost_by Restrictive cube) a)
        (λ told. action_there (holds told) (holds told) (known_cost_after told) table i a at) (action_there (must_hold cube) (may_hold cube) (known_cost_by Restrictive cube) table i a at) (one_restrictive i a at)

  pub made_permissive : IsPermissive table cube (permissive table cube)
  made_permissive =
      record {
        atoms = refl;
        start = taken_of_some cube table.start live;
        goal = taken_of_every cube table.goal live (goal_one_way table);
        actions = length-map table.actions (action_where (may_hold cube) (must_hold cube) (known_cost_by Permissive cube));
        each = each_permissive;
      }

  pub made_restrictive : IsRestrictive table cube (restrictive table cube)
  made_restrictive =
      record {
        atoms = refl;
        start = taken_of_every cube table.start live (start_one_way table);
        goal = taken_of_some cube table.goal live;
        actions = length-map table.actions (action_where (must_hold cube) (may_hold cube) (known_cost_by Restrictive cube));
        each = each_restrictive;
      }

-- ---- the tasks are unique
module _ (cube : CubeMeaning) where
  one_some : (of_member : Told → Numbers) (s t : Numbers) → AreOfSome cube of_member s → AreOfSome cube of_member t → s ≡ t
  one_some of_member s t a b = same_members s t (λ k. same_test _ _ (λ h. (b k).1 ((a k).0 h)) (λ h. (a k).1 ((b k).0 h)))

  one_every : (of_member : Told → Numbers) (s t : Numbers) → AreOfEvery cube of_member s → AreOfEvery cube of_member t → s ≡ t
  one_every of_member s t a b = same_members s t (λ k. same_test _ _ (λ h. (b k).1 ((a k).0 h)) (λ h. (a k).1 ((b k).0 h)))

  one_least : (of_member : Told → Option ℕ) (x y : Option ℕ) → IsLeastCost cube of_member x → IsLeastCost cube of_member y → x ≡ y
  one_least of_member x y a b =
      no_dearer-both x y (subst (IsNoDearer x) b.some.2 (a.least b.some.0 b.some.1)) (subst (IsNoDearer y) a.some.2 (b.least a.some.0 a.some.1))

  one_greatest : (of_member : Told → Option ℕ) (x y : Option ℕ) → IsGreatestCost cube of_member x → IsGreatestCost cube of_member y → x ≡ y
  one_greatest of_member x y a b =
      no_dearer-both x y (subst (λ z. IsNoDearer z y) a.some.2 (b.greatest a.some.0 a.some.1)) (subst (λ z. IsNoDearer z x) b.some.2 (a.greatest b.some.0 b.some.1))

  one_permissive_action : (of_member : Told → ActionMeaning) (x y : ActionMeaning) → IsPermissiveAction cube of_member x → IsPermissiveAction cube of_member y → x ≡ y
  one_permissive_action of_member x y a b =
      let pre : x.pre ≡ y.pre = one_every (λ told. (of_member told).pre) x.pre y.pre a.pre b.pre in
      let add : x.add ≡ y.add = one_some (λ told. (of_member told).add) x.add y.add a.add b.add in
      let del : x.del ≡ y.del = one_every (λ told. (of_member told).del) x.del y.del a.del b.del in
      let cost : x.cost ≡ y.cost = one_least (λ told. (of_member told).cost) x.cost y.cost a.cost b.cost in
      λ i. record { pre = pre i; add = add i; del = del i; cost = cost i }

  one_restrictive_action : (of_member : Told → ActionMeaning) (x y : ActionMeaning) → IsRestrictiveAction cube of_member x → IsRestrictiveAction cube of_member y → x ≡ y
  one_restrictive_action of_member x y a b =
      let pre : x.pre ≡ y.pre = one_some (λ told. (of_member told).pre) x.pre y.pre a.pre b.pre in
      let add : x.add ≡ y.add = one_every (λ told. (of_member told).add) x.add y.add a.add b.add in
      let del : x.del ≡ y.del = one_some (λ told. (of_member told).del) x.del y.del a.del b.del in
      let cost : x.cost ≡ y.cost = one_greatest (λ told. (of_member told).cost) x.cost y.cost a.cost b.cost in
      λ i. record { pre = pre i; add = add i; del = del i; cost = cost i }

-- lists of the same length with the same item at each place
same_list : {X : Type 0} (d : X) (xs ys : List X) → length xs ≡ length ys → ((i : ℕ) → unwrap_or (slice_get xs i) d ≡ unwrap_or (slice_get ys i) d) → xs ≡ ys
same_list d [] [] long same = refl
same_list d [] (y ∷ ys) long same = absurd (omega arith)
same_list d (x ∷ xs) [] long same = absurd (omega arith)
same_list d (x ∷ xs) (y ∷ ys) long same =
    let here : x ≡ y = same 0 in
    let rest : xs ≡ ys = same_list d xs ys (omega arith) (λ i. same (suc i)) in
    λ i. here i ∷ rest i

module _ (table : CaseTable) (cube : CubeMeaning) (t u : TaskMeaning) where
  one_permissive_task : IsPermissive table cube t → IsPermissive table cube u → t ≡ u
  one_permissive_task a b =
      let atoms : t.atoms ≡ u.atoms = a.atoms ∙ sym b.atoms in
      let start : t.start ≡ u.start = one_some cube (λ told. (member table told).start) t.start u.start a.start b.start in
      let goal : t.goal ≡ u.goal = one_every cube (λ told. (member table told).goal) t.goal u.goal a.goal b.goal in
      let actions : t.actions ≡ u.actions = same_list no_action t.actions u.actions (a.actions ∙ sym b.actions) (λ i. one_permissive_action cube (λ told. action_at (member table told) i) (action_at t i) (action_at u i) (a.each i) (b.each i)) in
      λ i. record { atoms = atoms i; start = start i; goal = goal i; actions = actions i }

  one_restrictive_task : IsRestrictive table cube t → IsRestrictive table cube u → t ≡ u
  one_restrictive_task a b =
      let atoms : t.atoms ≡ u.atoms = a.atoms ∙ sym b.atoms in
      let start : t.start ≡ u.start = one_every cube (λ told. (member table told).start) t.start u.start a.start b.start in
      let goal : t.goal ≡ u.goal = one_some cube (λ told. (member table told).goal) t.goal u.goal a.goal b.goal in
      let actions : t.actions ≡ u.actions = same_list no_action t.actions u.actions (a.actions ∙ sym b.actions) (λ i. one_restrictive_action cube (λ told. action_at (member table told) i) (action_at t i) (action_at u i) (a.each i) (b.each i)) in
      λ i. record { atoms = atoms i; start = start i; goal = goal i; actions = actions i }

pub relaxed_law : RelaxedLaw
relaxed_law =
    record {
      permissive_is = λ table cube task live.
          (λ is. one_permissive_task table cube task (permissive table cube) is (made_permissive table cube live), λ e. subst (IsPermissive table cube) (sym e) (made_permissive table cube live));
      restrictive_is = λ table cube task live.
          (λ is. one_restrictive_task table cube task (restrictive table cube) is (made_restrictive table cube live), λ e. subst (IsRestrictive table cube) (sym e) (made_restrictive table cube live));
    }
