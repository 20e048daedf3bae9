-- Judging a list step by step: what holds of its first steps, and what a fault shows of the whole list.
use Rattle.std.proofs.Common.{◌≡◌, ℕ, zero, suc, ◌+◌, ◌*◌, ◌^◌, ◌≤◌, ◌<◌, List, [], ◌∷◌, ◌++◌, length, get_or, take, Option, Some, None, is_some, true, Fits, w64, refl, sym, ap, ◌∙◌, subst, arith, IsTrue, ◌↔◌}
use Rattle.std.specs.List.{slice_get}
use Rattle.std.proofs.lemmas.Bool.{true≢false, false≢true, and_parts}
use Rattle.std.proofs.lemmas.List.{take_more, take_all}
use Rattle.std.proofs.lemmas.Option.{slice_get-get_or}
use Rattle.std.specs.Cmp.{nat_cmp_total}
use Rattle.std.specs.FinSet as set
use Rattle.std.specs.FinSet.{is_subset-contains}
use Rattle.mre_base.specs.Sets.{BitSet}
use Rattle.std.proofs.lemmas.Option.{none-some}
use Rattle.mre_base.proofs.Options.{same_some}
use Rattle.task_kit.specs.declared.judging.Judgement.{Judgement}
use Rattle.task_kit.specs.declared.judging.Judgement.TheVariants as judgements
use Rattle.task_kit.specs.Tasks.{Numbers, TaskMeaning, price, applies, after, as_bits, IsValidFrom, IsValid, cost_of, IsLeastMissing}
use Rattle.task_kit.specs.Judged.{state_after, DoApply, StopsAt, IsFaultOf, IsJudged, says_valid}

module _ (task : TaskMeaning) where
  pub state_after-push : (state : Numbers) (list : List ℕ) (action : ℕ) → state_after task state (list ++ action ∷ []) ≡ after task action (state_after task state list)
  state_after-push state [] action = refl
  state_after-push state (first ∷ list) action = state_after-push (after task first state) list action

  pub do_apply-push : (state : Numbers) (list : List ℕ) (action : ℕ) → DoApply task state list → applies task action (state_after task state list) ≡ true → DoApply task state (list ++ action ∷ [])
  do_apply-push state [] action all does = (does, tt)
  do_apply-push state (first ∷ list) action all does = (all.0, do_apply-push (after task first state) list action all.1 does)

  pub cost_of-push : (list : List ℕ) (action : ℕ) → cost_of task (list ++ action ∷ []) ≡ cost_of task list + price task action
  cost_of-push [] action = omega arith
  cost_of-push (first ∷ list) action = omega (arith, cost_of-push list action)

  -- a list whose steps apply and lead to the goal is valid
  pub valid_from : (state : Numbers) (list : List ℕ) → DoApply task state list → set.is_subset task.goal (state_after task state list) ≡ true → IsValidFrom task state list
  valid_from state [] all reached = reached
  valid_from state (first ∷ list) all reached = (all.0, valid_from (after task first state) list all.1 reached)

  -- each step of a valid list applies in the state to which the steps before it lead
  applies_at : (state : Numbers) (list : List ℕ) (place action : ℕ) → IsValidFrom task state list → slice_get list place ≡ Some action → applies task action (state_after task state (take place list)) ≡ true
  applies_at state [] place action valid here = absurd (none-some action here)
  applies_at state (first ∷ list) zero action valid here = subst (λ a. applies task a state ≡ true) (same_some first action here) valid.0
  applies_at state (first ∷ list) (suc place) action valid here = applies_at (after task first state) list place action valid.1 here

  goal_at : (state : Numbers) (list : List ℕ) → IsValidFrom task state list → set.is_subset task.goal (state_after task state list) ≡ true
  goal_at state [] valid = valid
  goal_at state (first ∷ list) valid = goal_at (after task first state) list valid.1

  -- ---- the judgement of the first steps of a list
  -- the first steps apply and lead to the state, at this cost
  pub record IsWalked (list : List ℕ) (count : ℕ) (state : BitSet) (cost : ℕ) : Type 0 where
    pub applied : DoApply task task.start (take count list)
    pub reached : state ≡ as_bits task (state_after task task.start (take count list))
    pub costs : cost ≡ cost_of task (take count list)
    pub low : cost ≤ count * 4294967295

  pub walked_none : (list : List ℕ) (state : BitSet) → state ≡ as_bits task task.start → IsWalked list 0 state 0
  walked_none list state e = record { applied = tt; reached = e; costs = refl; low = omega arith }

  pub fits_more : (count cost price length : ℕ) → cost ≤ count * 4294967295 → price < 2 ^ 32 → count < length → length < 2 ^ 32 → Fits w64 (cost + price)
  fits_more count cost price length low small lt few = omega arith

  low_more : (count cost price new : ℕ) → cost ≤ count * 4294967295 → price < 2 ^ 32 → new ≡ cost + price → new ≤ (count + 1) * 4294967295
  low_more count cost price new low small is = omega arith

  pub walked_more : (list : List ℕ) (count : ℕ) (state next : BitSet) (cost new : ℕ) → count < length list → applies task (get_or list count 0) state.members ≡ true
      → next ≡ as_bits task (after task (get_or list count 0) state.members) → new ≡ cost + price task (get_or list count 0) → price task (get_or list count 0) < 2 ^ 32
      → IsWalked list count state cost → IsWalked list (count + 1) next new
  walked_more list count state next cost new lt does is paid small walked =
      let action = get_or list count 0 in
      let more = take_more list count 0 lt in
      let here = ap (λ b. b.members) walked.reached in
      record {
        applied =
            subst (DoApply task task.start) (sym more)
            (do_apply-push task.start (take count list) action walked.applied (ap (applies task action) (sym here) ∙ does));
        reached =
            is ∙ ap (λ s. as_bits task (after task action s)) here
            ∙ ap (as_bits task) (sym (state_after-push task.start (take count list) action) ∙ ap (state_after task task.start) (sym more));
        costs = costs_more cost new (price task action) _ _ paid walked.costs (ap (cost_of task) more ∙ cost_of-push (take count list) action);
        low = low_more count cost (price task action) new walked.low small paid;
      }
    where
      costs_more : (a b p x y : ℕ) → b ≡ a + p → a ≡ x → y ≡ x + p → b ≡ y
      costs_more a b p x y eb ea ey = omega arith

  -- ---- the judgement of the whole list
  stops_at : (list : List ℕ) (count : ℕ) (state : BitSet) (cost step : ℕ) (Fault : ℕ → Numbers → Type 0) → count < length list → step ≡ count + 1 → IsWalked list count state cost
      → Fault (get_or list count 0) state.members → StopsAt task list step Fault
  stops_at list count state cost step Fault lt counted walked fault =
      record {
        place = count;
        action = get_or list count 0;
        counted = counted;
        here = slice_get-get_or list count 0 lt;
        before = walked.applied;
        fault = subst (Fault (get_or list count 0)) (ap (λ b. b.members) walked.reached) fault;
      }

  pub judged_at : (list : List ℕ) (count : ℕ) (state : BitSet) (cost step : ℕ) (fault : Judgement) → count < length list → step ≡ count + 1 → IsWalked list count state cost
      → IsFaultOf task (get_or list count 0) state.members step fault → IsJudged task list fault
  judged_at list count state cost step (judgements.Valid c) lt counted walked fault = absurd fault
  judged_at list count state cost step (judgements.Fails at atom) lt counted walked fault = stops_at list count state cost at _ lt (fault.0 ∙ counted) walked fault.1
  judged_at list count state cost step (judgements.NoCost at) lt counted walked fault = stops_at list count state cost at _ lt (fault.0 ∙ counted) walked (fault.1, fault.2)
  judged_at list count state cost step (judgements.GoalMissing atom) lt counted walked fault = absurd fault

  pub judged_goal : (list : List ℕ) (count : ℕ) (state : BitSet) (cost atom : ℕ) → length list ≤ count → IsWalked list count state cost → IsLeastMissing task.goal state.members atom
      → IsJudged task list (judgements.GoalMissing atom)
  judged_goal list count state cost atom le walked missing =
      let whole = take_all count list le in
      (subst (DoApply task task.start) whole walked.applied, subst (λ s. IsLeastMissing task.goal s atom) (ap (λ b. b.members) walked.reached ∙ ap (state_after task task.start) whole) missing)

  pub judged_valid : (list : List ℕ) (count : ℕ) (state : BitSet) (cost : ℕ) → length list ≤ count → IsWalked list count state cost → set.is_subset task.goal state.members ≡ true
      → IsJudged task list (judgements.Valid cost)
  judged_valid list count state cost le walked reached =
      let whole = take_all count list le in (
        valid_from task.start list (subst (DoApply task task.start) whole walked.applied)
            (sym (ap (λ s. set.is_subset task.goal s) (ap (λ b. b.members) walked.reached ∙ ap (state_after task task.start) whole)) ∙ reached),
        walked.costs ∙ ap (cost_of task) whole,
      )

  -- a state that lacks a wanted atom doesn't have them all
  lacks_one : (wanted state : Numbers) (atom : ℕ) → IsLeastMissing wanted state atom → set.is_subset wanted state ≡ true → ⊥
  lacks_one wanted state atom missing sub = false≢true (sym missing.is_missing ∙ is_subset-contains nat_cmp_total wanted state sub atom missing.is_wanted)

  costs_none : (o : Option ℕ) → o ≡ None → is_some o ≡ true → ⊥
  costs_none o none some = true≢false (sym some ∙ ap is_some none)

  -- a list is valid exactly where its judgement says so
  pub says_rightly : (list : List ℕ) (judgement : Judgement) → IsJudged task list judgement → IsTrue (says_valid judgement) ↔ IsValid task list
  says_rightly list (judgements.Valid cost) judged = (λ _. judged.0, λ _. refl)
  says_rightly list (judgements.Fails step atom) judged = (
    λ h. absurd (false≢true h),
    λ valid. absurd (lacks_one _ _ atom judged.fault (and_parts _ _ (applies_at task.start list judged.place judged.action valid judged.here)).1),
  )
  says_rightly list (judgements.NoCost step) judged = (
    λ h. absurd (false≢true h),
    λ valid. absurd (costs_none _ judged.fault.1 (and_parts _ _ (applies_at task.start list judged.place judged.action valid judged.here)).0),
  )
  says_rightly list (judgements.GoalMissing atom) judged = (λ h. absurd (false≢true h), λ valid. absurd (lacks_one _ _ atom judged.1 (goal_at task.start list valid)))
