-- The best complete set so far, and one more set.
use Rattle.std.proofs.Common.{◌≡◌, ℕ, ◌+◌, ◌≤◌, ◌<◌, Bool, true, false, List, length, replicate, Some, refl, sym, ap, ◌∙◌, subst, arith, ⊎_elim, inl, inr}
use Rattle.std.specs.Prelude.{◌⊎◌, slice_get, take}
use Rattle.std.proofs.lemmas.Bool.{true≢false, cases_lt}
use Rattle.std.proofs.lemmas.List.{take-replicate, length-replicate}
use Rattle.std.proofs.lemmas.Option.{slice_get-get_or}
use Rattle.mre_base.specs.Before.{is_before}
use Rattle.mre_base.proofs.Listed.{place_of_contained}
use Rattle.mre_base.proofs.Options.{same_some}
use Rattle.cube_kit.specs.Cubes.{Told, IsWithin, all_to}
use Rattle.cube_kit.proofs.OrderLemmas.{order_law}
use Rattle.task_kit.specs.Tasks.{cost_of}
use Rattle.case_kit.specs.declared.table.CaseTable.{CaseTable}
use Rattle.case_kit.specs.Members.{member}
use Rattle.table_explanations.specs.Explanations.{Reconciliation, IsComplete, even}
use Rattle.plain_program.specs.declared.answer.FirstComplete.{FirstComplete}
use Rattle.plain_program.specs.Answers.{IsFirstComplete}
use Rattle.plain_program.specs.Kept.{IsPriced, Keeps}
use Rattle.plain_program.specs.Subsets.{ListsAll}

module _ (table : CaseTable) (plan : List ℕ) where
  abbrev pub q : Reconciliation
  q = even table plan

  -- the set is complete with the cost, and equals or precedes each complete set among the first
  -- ones of a list
  pub record IsBest (sets : List Told) (done : ℕ) (best : FirstComplete) : Type 0 where
    pub within : IsWithin table.d best.told
    pub priced : IsPriced q best.told best.cost
    pub leads : (k : ℕ) (told : Told) → k < done → slice_get sets k ≡ Some told → IsComplete q told
        → (told ≡ best.told) ⊎ (is_before q.weights best.told told ≡ true)

  to_weights : (s : Told) → IsWithin table.d s → IsWithin (length q.weights) s
  to_weights s = subst (λ n. IsWithin n s) (sym (length-replicate table.d 1))

  pub whole_best : (sets : List Told) (best : FirstComplete) → best.told ≡ all_to table.d → IsWithin table.d best.told → best.cost ≡ cost_of (member table best.told) plan → IsComplete q (all_to table.d) → IsBest sets 0 best
  whole_best sets best told within cost_is complete = record {
    within = within;
    priced = (subst (IsComplete q) (sym told) complete, cost_is);
    leads = λ k other lt at is. absurd (omega arith);
  }

  module _ (sets : List Told) (done : ℕ) (told : Told) (at : slice_get sets done ≡ Some told) where
    the_same : (k : ℕ) (other : Told) → k < done + 1 → done ≤ k → slice_get sets k ≡ Some other → other ≡ told
    the_same k other less last here =
        let e : k ≡ done = omega arith in
        same_some other told (sym here ∙ ap (slice_get sets) e ∙ at)

    stays : (best : FirstComplete) → IsWithin table.d told → IsBest sets done best → ¬ (IsComplete q told × (is_before q.weights told best.told ≡ true)) → IsBest sets (done + 1) best
    stays best within before passed = record {
      within = before.within;
      priced = before.priced;
      leads = λ k other less here complete. ⊎_elim
          (λ earlier. before.leads k other earlier here complete)
          (λ last. let same = the_same k other less last here in
          ⊎_elim (λ is. inl is)
          (⊎_elim
          (λ first. absurd (passed (subst (IsComplete q) same complete, subst (λ s. is_before q.weights s best.told ≡ true) same first)))
          (λ after. inr after))
          (order_law.total q.weights other best.told (to_weights other (subst (IsWithin table.d) (sym same) within)) (to_weights best.told before.within)))
          (cases_lt k done);
    }

    pub best_more : (best kept : FirstComplete) → IsWithin table.d told → IsBest sets done best → Keeps q best told kept → IsBest sets (done + 1) kept
    best_more best kept within before keeps = ⊎_elim (λ old. subst (IsBest sets (done + 1)) (sym old.0) (stays best within before old.1)) (λ new. record {
      within = subst (IsWithin table.d) (sym new.0) within;
      priced = subst (λ s. IsPriced q s kept.cost) (sym new.0) new.2;
      leads = λ k other less here complete. ⊎_elim
          (λ earlier. inr (subst (λ s. is_before q.weights s other ≡ true) (sym new.0) (⊎_elim
          (λ same. subst (λ s. is_before q.weights told s ≡ true) (sym same) new.1)
          (λ further. order_law.trans q.weights told best.told other new.1 further)
          (before.leads k other earlier here complete))))
          (λ last. inl (the_same k other less last here ∙ sym new.0))
          (cases_lt k done);
    }) keeps

  pub best_first : (sets : List Told) (best : FirstComplete) → ListsAll table.d sets → IsBest sets (length sets) best → IsFirstComplete q best
  best_first sets best all is = record {
    mce = record {
      within = is.within;
      has = is.priced.0;
      first = λ other within complete apart.
          let listed = all.all other within in
          let at = place_of_contained sets other listed in
          let here : slice_get sets listed.0 ≡ Some other = slice_get-get_or sets listed.0 other listed.1 ∙ ap Some listed.2 in
          ⊎_elim (λ same. absurd (apart same)) (λ before. before) (is.leads listed.0 other listed.1 here complete);
    };
    costs = is.priced.1;
  }

  -- the order by 256 weights of 1 is the order of this task
  pub narrowed : (weights : List ℕ) → weights ≡ replicate 256 1 → (one two : Told) → IsWithin table.d one → IsWithin table.d two → table.d ≤ 256
      → (answer : Bool) → ((n : ℕ) → n ≤ 256 → IsWithin n one → IsWithin n two → answer ≡ is_before (take n weights) one two) → answer ≡ is_before q.weights one two
  narrowed weights ones one two first second few answer narrow =
      narrow table.d few first second
      ∙ ap (λ ws. is_before (take table.d ws) one two) ones
      ∙ ap (λ ws. is_before ws one two) (take-replicate table.d 256 1 few)

  pub keeps_later : (best : FirstComplete) (told : Told) → false ≡ is_before q.weights told best.told → Keeps q best told best
  keeps_later best told later = inl (refl, λ both. true≢false (sym both.1 ∙ sym later))

  pub keeps_incomplete : (best : FirstComplete) (told : Told) → ¬ IsComplete q told → Keeps q best told best
  keeps_incomplete best told incomplete = inl (refl, λ both. incomplete both.0)

  pub keeps_new : (best kept : FirstComplete) (told : Told) → kept.told ≡ told → true ≡ is_before q.weights told best.told → IsPriced q told kept.cost → Keeps q best told kept
  keeps_new best kept told is before priced = inr (is, sym before, priced)
