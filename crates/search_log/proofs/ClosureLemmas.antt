-- Each state has exactly one free closure. The state grows by what actions of cost 0 add, one action at a time; each action adds something new at most once.
use Rattle.std.proofs.Common.{◌≡◌, ℕ, zero, suc, ◌+◌, ◌≤◌, ◌<◌, Bool, true, false, not, cond, ◌&&◌, nat_eq, ◌⊎◌, inl, inr, Option, None, Some, unwrap_or, List, [], ◌∷◌, refl, sym, ap, ◌∙◌, subst, arith}
use Rattle.std.specs.Prelude.{slice_get}
use Rattle.std.specs.Cmp.{nat_cmp_total}
use Rattle.std.specs.FinSet as set
use Rattle.std.specs.FinSet.{contains-union, is_subset-contains, contains-is_subset}
use Rattle.std.proofs.lemmas.Bool.{true≢false, false≢true, and_parts, and_from, or_cases, or_left, or_right, eqb-true}
use Rattle.mre_base.proofs.Options.{same_some}
use Rattle.std.proofs.lemmas.Option.{none-some}
use Rattle.mre_base.specs.SameSets.{same_from_is_same_set}
use Rattle.task_kit.specs.Tasks.{Numbers, ActionMeaning, TaskMeaning, no_action, action_at}
use Rattle.task_kit.proofs.StepLemmas.{subset-trans}
use Rattle.relax_cuts.specs.FreeClosure.{IsFreeClosure}
use Rattle.search_log.specs.Laws.{ClosureLaw}

subset_itself : (s : Numbers) → set.is_subset s s ≡ true
subset_itself s = contains-is_subset nat_cmp_total s s (λ q h. h)

union_left : (s t : Numbers) → set.is_subset s (set.union s t) ≡ true
union_left s t = contains-is_subset nat_cmp_total s (set.union s t) (λ q h. contains-union nat_cmp_total s t q ∙ or_left (set.contains s q) (set.contains t q) h)

union_right : (s t : Numbers) → set.is_subset t (set.union s t) ≡ true
union_right s t = contains-is_subset nat_cmp_total t (set.union s t) (λ q h. contains-union nat_cmp_total s t q ∙ or_right (set.contains s q) (set.contains t q) h)

union_within : (s t u : Numbers) → set.is_subset s u ≡ true → set.is_subset t u ≡ true → set.is_subset (set.union s t) u ≡ true
union_within s t u one two =
    contains-is_subset nat_cmp_total (set.union s t) u (λ q h.
    elim (or_cases (set.contains s q) (set.contains t q) (sym (contains-union nat_cmp_total s t q) ∙ h)) [
      | inl in_s ↦ is_subset-contains nat_cmp_total s u one q in_s
      | inr in_t ↦ is_subset-contains nat_cmp_total t u two q in_t
    ])

is_free : Option ℕ → Bool
is_free None = false
is_free (Some cost) = nat_eq cost 0

free_is : (o : Option ℕ) → is_free o ≡ true → o ≡ Some 0
unfolding is_free
free_is None h = absurd (false≢true h)
free_is (Some cost) h = ap Some (eqb-true cost 0 h)

is_free_at : (o : Option ℕ) → o ≡ Some 0 → is_free o ≡ true
unfolding is_free
is_free_at o e = subst (λ p. is_free p ≡ true) (sym e) refl

-- the action costs nothing, applies in the set, and adds something that isn't in it
is_loose : Numbers → ActionMeaning → Bool
is_loose among action = is_free action.cost && (set.is_subset action.pre among && not (set.is_subset action.add among))

record Loose (actions : List ActionMeaning) (among : Numbers) : Type 0 where
  place : ℕ
  action : ActionMeaning
  here : slice_get actions place ≡ Some action
  free : action.cost ≡ Some 0
  does : set.is_subset action.pre among ≡ true
  adds : set.is_subset action.add among ≡ false

abbrev IsTight : List ActionMeaning → Numbers → Type 0
IsTight actions among = (place : ℕ) (action : ActionMeaning) → slice_get actions place ≡ Some action → action.cost ≡ Some 0
    → set.is_subset action.pre among ≡ true → set.is_subset action.add among ≡ true

not_true : (b : Bool) → not b ≡ true → b ≡ false
not_true true h = absurd (false≢true h)
not_true false h = refl

-- some action is loose, or none is
find : (actions : List ActionMeaning) (among : Numbers) → Loose actions among ⊎ IsTight actions among
unfolding is_loose
find [] among = inr (λ place action here. absurd (none-some action here))
find (first ∷ actions) among =
    elim (is_loose among first) as (λ b. is_loose among first ≡ b → Loose (first ∷ actions) among ⊎ IsTight (first ∷ actions) among) [
      | true ↦ λ h.
          let one = and_parts (is_free first.cost) (set.is_subset first.pre among && not (set.is_subset first.add among)) h in
          let two = and_parts (set.is_subset first.pre among) (not (set.is_subset first.add among)) one.1 in
          inl (record { place = 0; action = first; here = refl; free = free_is first.cost one.0; does = two.0; adds = not_true (set.is_subset first.add among) two.1 })
      | false ↦ λ h. elim (find actions among) [
        | inl l ↦ inl (record { place = suc l.place; action = l.action; here = l.here; free = l.free; does = l.does; adds = l.adds })
        | inr tight ↦ inr (tight_more h tight)
      ]
    ] refl
  where
    tight_first : is_loose among first ≡ false → first.cost ≡ Some 0 → set.is_subset first.pre among ≡ true → set.is_subset first.add among ≡ true
    tight_first h free does = by (set.is_subset first.add among) refl where
      by : (b : Bool) → set.is_subset first.add among ≡ b → b ≡ true
      by true e = refl
      by false e = absurd (true≢false (sym (and_from (is_free first.cost) (set.is_subset first.pre among && not (set.is_subset first.add among)) (is_free_at first.cost free)
          (and_from (set.is_subset first.pre among) (not (set.is_subset first.add among)) does (ap not e))) ∙ h))

    tight_more : is_loose among first ≡ false → IsTight actions among → IsTight (first ∷ actions) among
    tight_more h tight zero action here =
        let same : first ≡ action = same_some first action here in
        subst (λ a. a.cost ≡ Some 0 → set.is_subset a.pre among ≡ true → set.is_subset a.add among ≡ true) same (tight_first h)
    tight_more h tight (suc place) action here = tight place action here

-- how many actions add something that isn't in the set
missing : Numbers → List ActionMeaning → ℕ
missing among [] = 0
missing among (action ∷ actions) = cond (set.is_subset action.add among) 0 1 + missing among actions

missing_one : (a b : Bool) (m n : ℕ) → (a ≡ true → b ≡ true) → m ≤ n → cond b 0 1 + m ≤ cond a 0 1 + n
missing_one true true m n h le = omega arith
missing_one true false m n h le = absurd (false≢true (h refl))
missing_one false true m n h le = omega arith
missing_one false false m n h le = omega arith

missing_within : (among more : Numbers) (actions : List ActionMeaning) → set.is_subset among more ≡ true → missing more actions ≤ missing among actions
unfolding missing
missing_within among more [] sub = omega arith
missing_within among more (action ∷ actions) sub =
    missing_one (set.is_subset action.add among) (set.is_subset action.add more) _ _ (λ h. subset-trans action.add among more h sub) (missing_within among more actions sub)

less_by_one : (a b : Bool) (m n : ℕ) → a ≡ false → b ≡ true → m ≤ n → cond b 0 1 + m < cond a 0 1 + n
less_by_one true b m n ea eb le = absurd (true≢false ea)
less_by_one false true m n ea eb le = omega arith
less_by_one false false m n ea eb le = absurd (false≢true eb)

less_later : (a b : Bool) (m n : ℕ) → (a ≡ true → b ≡ true) → m < n → cond b 0 1 + m < cond a 0 1 + n
less_later true true m n h lt = omega arith
less_later true false m n h lt = absurd (false≢true (h refl))
less_later false true m n h lt = omega arith
less_later false false m n h lt = omega arith

missing_less : (among more : Numbers) (actions : List ActionMeaning) (place : ℕ) (action : ActionMeaning) → slice_get actions place ≡ Some action → set.is_subset action.add among ≡ false
    → set.is_subset action.add more ≡ true → set.is_subset among more ≡ true → missing more actions < missing among actions
unfolding missing
missing_less among more [] place action here lacks has sub = absurd (none-some action here)
missing_less among more (first ∷ actions) zero action here lacks has sub =
    let same : first ≡ action = same_some first action here in
    less_by_one (set.is_subset first.add among) (set.is_subset first.add more) _ _ (ap (λ a. set.is_subset a.add among) same ∙ lacks) (ap (λ a. set.is_subset a.add more) same ∙ has) (missing_within among more actions sub)
missing_less among more (first ∷ actions) (suc place) action here lacks has sub =
    less_later (set.is_subset first.add among) (set.is_subset first.add more) _ _ (λ h. subset-trans first.add among more h sub) (missing_less among more actions place action here lacks has sub)

module _ (task : TaskMeaning) where
  -- a set in which no action is loose is its own free closure
  closed_at : (among : Numbers) (o : Option ActionMeaning) → ((action : ActionMeaning) → o ≡ Some action → action.cost ≡ Some 0 → set.is_subset action.pre among ≡ true → set.is_subset action.add among ≡ true)
      → (unwrap_or o no_action).cost ≡ Some 0 → set.is_subset (unwrap_or o no_action).pre among ≡ true → set.is_subset (unwrap_or o no_action).add among ≡ true
  closed_at among None tight free does = absurd (none-some 0 free)
  closed_at among (Some action) tight free does = tight action refl free does

  closed : (state : Numbers) → IsTight task.actions state → IsFreeClosure task state state
  closed state tight =
      record {
        has_state = subset_itself state;
        closed = λ action. closed_at state (slice_get task.actions action) (tight action);
        least = λ other has is_closed. has;
      }

  -- what a loose action adds belongs to the closure
  grown : (state closure : Numbers) (l : Loose task.actions state) → IsFreeClosure task (set.union state l.action.add) closure → IsFreeClosure task state closure
  grown state closure l is =
      record {
        has_state = subset-trans state (set.union state l.action.add) closure (union_left state l.action.add) is.has_state;
        closed = is.closed;
        least = λ other has is_closed.
            let at : action_at task l.place ≡ l.action = ap (λ o. unwrap_or o no_action) l.here in
            let added : set.is_subset l.action.add other ≡ true =
            subst (λ a. a.cost ≡ Some 0 → set.is_subset a.pre other ≡ true → set.is_subset a.add other ≡ true) at (is_closed l.place) l.free
            (subset-trans l.action.pre state other l.does has) in
            is.least other (union_within state l.action.add other has added) is_closed;
      }

  fewer : (state : Numbers) (l : Loose task.actions state) → missing (set.union state l.action.add) task.actions < missing state task.actions
  fewer state l = missing_less state (set.union state l.action.add) task.actions l.place l.action l.here l.adds (union_right state l.action.add) (union_left state l.action.add)

  closure_within : (fuel : ℕ) (state : Numbers) → missing state task.actions ≤ fuel → (closure : Numbers) × IsFreeClosure task state closure
  closure_within zero state few =
      elim (find task.actions state) [
        | inl l ↦ absurd (omega (arith, fewer state l))
        | inr tight ↦ (state, closed state tight)
      ]
  closure_within (suc fuel) state few =
      elim (find task.actions state) [
        | inl l ↦
            let more = closure_within fuel (set.union state l.action.add) (omega (arith, fewer state l)) in
            (more.0, grown state more.0 l more.1)
        | inr tight ↦ (state, closed state tight)
      ]

  pub free_closure : (state : Numbers) → (closure : Numbers) × IsFreeClosure task state closure
  free_closure state = closure_within (missing state task.actions) state (omega arith)

  pub one_closure : (state closure other : Numbers) → IsFreeClosure task state closure → IsFreeClosure task state other → other ≡ closure
  one_closure state closure other one two =
      same_from_is_same_set other closure
      (and_from (set.is_subset other closure) (set.is_subset closure other) (two.least closure one.has_state one.closed) (one.least other two.has_state two.closed))

pub closure_law : ClosureLaw
closure_law task state =
    let found = free_closure task state in
    (found.0, record { is = found.1; only = λ other is. one_closure task state found.0 other found.1 is })
