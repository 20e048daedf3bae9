-- The costs of actions that cuts leave, and what follows for the cuts.
use Rattle.std.proofs.Common.{◌≡◌, ℕ, ◌+◌, ◌^◌, ◌≤◌, ◌<◌, Bool, true, false, cond, List, [], ◌∷◌, ◌++◌, length, take, refl, sym, ap, ◌∙◌, arith, subst, inl, inr, slice_index, unwrap_or, Option, Some, None, is_some, slice_get, All, not, min}
use Rattle.std.proofs.lemmas.Bool.{cases_lt, and_parts, false≢true, false_from_ne_true, both_ways}
use Rattle.std.proofs.lemmas.List.{map-append, take-append-le, take_all}
use Rattle.std.proofs.lemmas.List.Elements.{All-push, All-head}
use Rattle.std.proofs.lemmas.Option.{slice_get_past}
use Rattle.std.specs.FinSet as set
use Rattle.std.specs.Option.{ForSome}
use Rattle.task_kit.specs.declared.cut.Cut.{Cut}
use Rattle.task_kit.specs.Cuts.{most, CutMeaning, counts, weight_of, IsCutOf}
use Rattle.task_kit.specs.Kept.{cut_meaning, cuts_meaning}
use Rattle.task_kit.specs.Tasks.{Numbers, ActionMeaning, TaskMeaning, IsTask, no_action, cost_at, price}
use Rattle.std.proofs.lemmas.Option.{none-some, slice_get_within}
use Rattle.mre_base.proofs.Options.{same_some}
use Rattle.mre_base.proofs.Tests.{not_false}
use Rattle.task_kit.proofs.CutWeights.{weight_of-push, none_at, not_counted}
use Rattle.task_kit.proofs.PlaceLemmas.{push_cases, length_pushed}
use Rattle.task_kit.proofs.StepLemmas.{subset-trans}
use Rattle.relax_cuts.specs.Closing.{IsUsable, IsClosedUnder, Spreads}
use Rattle.relax_cuts.specs.FreeClosure.{IsFreeClosure, AreForced}
use Rattle.relax_cuts.specs.Lean.{UsesUp, CountsNone, AreLean}
use Rattle.task_kit.specs.Atoms.{lesser_of}
use Rattle.relax_cuts.specs.Leaving.{is_counted, Leave, IsLeastLeft, IsWeight, IsFormed, EachUsesUp}

-- ---- actions that aren't listed
never_counted : (task : TaskMeaning) (action : ℕ) (among : Numbers) → length task.actions ≤ action → is_counted task action among ≡ false
never_counted task action among past =
    false_from_ne_true _ (λ yes. false≢true (sym (ap (λ a. is_some a.cost) (none_at task.actions action past)) ∙ (and_parts _ _ (and_parts _ _ yes).0).0))

-- ---- the costs that are left
module _ (task : TaskMeaning) where
  pub leave_none : (left : List ℕ) → length left ≡ length task.actions → ((action : ℕ) → action < length task.actions → slice_index left action ≡ price task action) → Leave task [] left
  leave_none left sized each = record { sized = sized; each = λ action lt. none_more _ _ (each action lt) } where
    none_more : (n m : ℕ) → n ≡ m → n + 0 ≡ m
    none_more n m e = omega arith

  moved : (new charge old weight price : ℕ) → new + charge ≡ old → old + weight ≡ price → new + (weight + charge) ≡ price
  moved new charge old weight price one two = omega arith

  pub leave_more : (cuts : List CutMeaning) (cut : CutMeaning) (old new : List ℕ) → Leave task cuts old → length new ≡ length old
      → ((action : ℕ) → action < length task.actions → slice_index new action + cond (is_counted task action cut.among) cut.weight 0 ≡ slice_index old action)
      → Leave task (cuts ++ cut ∷ []) new
  leave_more cuts cut old new leave sized sums =
      record {
        sized = sized ∙ leave.sized;
        each = λ action lt.
            ap (λ n. slice_index new action + n) (weight_of-push (counts task action) cuts cut)
            ∙ moved (slice_index new action) (cond (is_counted task action cut.among) cut.weight 0) (slice_index old action) _ _ (sums action lt) (leave.each action lt);
      }

  within_by : (left weight price : ℕ) → left + weight ≡ price → weight ≤ price
  within_by left weight price e = omega arith

  pub within_of : (cuts : List CutMeaning) (left : List ℕ) → Leave task cuts left → (action : ℕ) → weight_of (counts task action) cuts ≤ price task action
  within_of cuts left leave action =
      elim (cases_lt action (length task.actions)) [
        | inl lt ↦ within_by _ _ _ (leave.each action lt)
        | inr past ↦ omega (arith, not_counted task action cuts past)
      ]

  left_within : (cuts : List CutMeaning) (left : List ℕ) → Leave task cuts left → (action : ℕ) → action < length task.actions → slice_index left action ≤ price task action
  left_within cuts left leave action lt = by_sum _ _ _ (leave.each action lt) where
    by_sum : (l w p : ℕ) → l + w ≡ p → l ≤ p
    by_sum l w p e = omega arith

  -- a cut that uses up the least cost left of an action that it counts
  module _ (cuts : List CutMeaning) (left : List ℕ) (leave : Leave task cuts left) (cut : CutMeaning) (least : IsLeastLeft task (length task.actions) left cut.among cut.weight) where
    pub uses_up : UsesUp task cuts cut
    uses_up = (
      least.action,
      least.counted,
      weight_of-push (counts task least.action) cuts cut
          ∙ ap (λ b. weight_of (counts task least.action) cuts + cond b cut.weight 0) least.counted
          ∙ turned _ _ _ _ least.here (leave.each least.action least.listed),
    )
      where
        turned : (l w sum p : ℕ) → l ≡ w → l + sum ≡ p → sum + w ≡ p
        turned l w sum p e whole = omega arith

    pub in_range : IsTask task → cut.weight ≤ most
    in_range is = small _ _ _ least.here (left_within cuts left leave least.action least.listed) (is.each least.action).cost where
      small : (l w p : ℕ) → l ≡ w → l ≤ p → p < 2 ^ 32 → w ≤ most
      small l w p e le lt = omega arith

-- ---- the least cost left, one action after another
module _ (task : TaskMeaning) (left : List ℕ) (among : Numbers) (i : ℕ) where
  past_same : (other : ℕ) → other < i + 1 → i ≤ other → i ≡ other
  past_same other lt le = omega arith

  pub weigh_none : (o : Option ℕ) → o ≡ None → i ≡ 0 → IsWeight task i left among o
  weigh_none None e zero_is = λ action lt. absurd (omega arith)
  weigh_none (Some w) e zero_is = absurd (cc)

  pub weigh_same : (least r : Option ℕ) → r ≡ least → is_counted task i among ≡ false → IsWeight task i left among least → IsWeight task (i + 1) left among r
  weigh_same None r e out weigh =
      subst (IsWeight task (i + 1) left among) (sym e) (λ action lt.
      elim (cases_lt action i) [
        | inl less ↦ weigh action less
        | inr past ↦ subst (λ a. is_counted task a among ≡ false) (past_same action lt past) out
      ])
  weigh_same (Some weight) r e out weigh =
      subst (IsWeight task (i + 1) left among) (sym e) (record {
        action = weigh.action;
        listed = omega (arith, weigh.listed);
        counted = weigh.counted;
        here = weigh.here;
        within = λ other lt yes.
            elim (cases_lt other i) [
              | inl less ↦ weigh.within other less yes
              | inr past ↦ absurd (both_ways _ out (ap (λ a. is_counted task a among) (past_same other lt past) ∙ yes))
            ];
      })

  here_least : (x : ℕ) → is_counted task i among ≡ true → x ≡ slice_index left i → ((other : ℕ) → other < i → is_counted task other among ≡ true → x ≤ slice_index left other) → IsLeastLeft task (i + 1) left among x
  here_least x counts_it read least =
      record {
        action = i;
        listed = omega arith;
        counted = counts_it;
        here = sym read;
        within = λ other lt counted.
            elim (cases_lt other i) [
              | inl less ↦ least other less counted
              | inr past ↦ subst (λ a. x ≤ slice_index left a) (past_same other lt past) (omega (arith, read))
            ];
      }

  there_least : (x weight : ℕ) → x ≡ slice_index left i → weight ≤ x → IsLeastLeft task i left among weight → IsLeastLeft task (i + 1) left among weight
  there_least x weight read le weigh =
      record {
        action = weigh.action;
        listed = omega (arith, weigh.listed);
        counted = weigh.counted;
        here = weigh.here;
        within = λ other lt counted.
            elim (cases_lt other i) [
              | inl less ↦ weigh.within other less counted
              | inr past ↦ subst (λ a. weight ≤ slice_index left a) (past_same other lt past) (omega (arith, read))
            ];
      }

  pub weigh_more : (least r : Option ℕ) (x : ℕ) → r ≡ Some (lesser_of least x) → is_counted task i among ≡ true → x ≡ slice_index left i → IsWeight task i left among least → IsWeight task (i + 1) left among r
  weigh_more None r x e counts_it read weigh =
      subst (IsWeight task (i + 1) left among) (sym e) (here_least x counts_it read (λ other lt counted. absurd (both_ways _ (weigh other lt) counted)))
  weigh_more (Some weight) r x e counts_it read weigh =
      subst (IsWeight task (i + 1) left among) (sym e)
      (elim (cases_lt x weight) [
        | inl lt ↦ let is : x ≡ min x weight = omega arith in subst (IsLeastLeft task (i + 1) left among) is (here_least x counts_it read (λ other less counted. at_most _ _ _ lt (weigh.within other less counted)))
        | inr le ↦ let is : weight ≡ min x weight = omega arith in subst (IsLeastLeft task (i + 1) left among) is (there_least x weight read le weigh)
      ])
    where
      at_most : (n m k : ℕ) → n < m → m ≤ k → n ≤ k
      at_most n m k lt le = omega arith

-- a cut that counts none of the listed actions counts no action
pub counts_none : (task : TaskMeaning) (left : List ℕ) (cut : CutMeaning) → IsWeight task (length task.actions) left cut.among None → CountsNone task cut
counts_none task left cut none action =
    elim (cases_lt action (length task.actions)) [
      | inl lt ↦ none action lt
      | inr past ↦ never_counted task action cut.among past
    ]

-- if the set is closed, something is left of the cost of each counted action
pub above_0 : (task : TaskMeaning) (left : List ℕ) (among : Numbers) (weight : ℕ) → IsClosedUnder task left 0 among → IsLeastLeft task (length task.actions) left among weight → 0 < weight
above_0 task left among weight closed least =
    elim (cases_lt 0 weight) [
      | inl lt ↦ lt
      | inr le ↦
          let parts = and_parts _ _ least.counted in
          let usable : IsUsable task left 0 least.action among = record { listed = least.listed; cheap = omega (arith, least.here); does = parts.0 } in
          absurd (both_ways _ (not_false _ parts.1) (closed least.action usable))
    ]

pub above_all : (task : TaskMeaning) (left : List ℕ) (among : Numbers) (least : Option ℕ) → IsClosedUnder task left 0 among → IsWeight task (length task.actions) left among least → ForSome least (λ weight. 0 < weight)
above_all task left among None closed weigh = λ weight e. absurd (none-some weight e)
above_all task left among (Some w) closed weigh = λ weight e. subst (λ n. 0 < n) (same_some w weight e) (above_0 task left among w closed weigh)

-- ---- one more cut
module _ (task : TaskMeaning) (state : Numbers) (cuts : List Cut) (cut : Cut) (new : List Cut) (is : new ≡ cuts ++ cut ∷ []) where
  abbrev ms : List CutMeaning
  ms = cuts_meaning task.atoms cuts

  abbrev m : CutMeaning
  m = cut_meaning task.atoms cut

  pub meant : cuts_meaning task.atoms new ≡ ms ++ m ∷ []
  meant = ap (cuts_meaning task.atoms) is ∙ map-append (cut_meaning task.atoms) cuts (cut ∷ [])

  pub formed_more : All (IsFormed task.atoms) cuts → IsFormed task.atoms cut → All (IsFormed task.atoms) new
  formed_more each one = subst (All (IsFormed task.atoms)) (sym is) (All-push (IsFormed task.atoms) cuts cut each one)

  pub each_more : All (IsCutOf task state) ms → IsCutOf task state m → All (IsCutOf task state) (cuts_meaning task.atoms new)
  each_more each one = subst (All (IsCutOf task state)) (sym meant) (All-push (IsCutOf task state) ms m each one)

  taken_before : (place : ℕ) → place ≤ length ms → take place (ms ++ m ∷ []) ≡ take place ms
  taken_before place le = take-append-le place ms (m ∷ []) le

  -- each cut and those before it
  places_more : (P : List CutMeaning → CutMeaning → Type 0) → ((place : ℕ) (c : CutMeaning) → slice_get ms place ≡ Some c → P (take place ms) c) → P ms m
      → (place : ℕ) (c : CutMeaning) → slice_get (ms ++ m ∷ []) place ≡ Some c → P (take place (ms ++ m ∷ [])) c
  places_more P each one place c at =
      elim (push_cases ms m place c at) [
        | inl there ↦ subst (λ before. P before c) (sym (taken_before place (below _ _ (slice_get_within ms place c there)))) (each place c there)
        | inr (e, same) ↦ subst (λ before. P before c) (sym (taken_before place (same_le _ _ e) ∙ take_all place ms (same_ge _ _ e))) (subst (P ms) (sym same) one)
      ]
    where
      below : (a b : ℕ) → a < b → a ≤ b
      below a b lt = omega arith

      same_le : (a b : ℕ) → a ≡ b → a ≤ b
      same_le a b e = omega arith

      same_ge : (a b : ℕ) → a ≡ b → b ≤ a
      same_ge a b e = omega arith

  pub used_more : EachUsesUp task ms → UsesUp task ms m → EachUsesUp task (cuts_meaning task.atoms new)
  used_more each one = subst (EachUsesUp task) (sym meant) (places_more (UsesUp task) each one)

  -- a last cut that counts no action
  pub lean_last : EachUsesUp task ms → CountsNone task m → AreLean task (cuts_meaning task.atoms new)
  lean_last each none = subst (AreLean task) (sym meant) lean where
    lean : AreLean task (ms ++ m ∷ [])
    lean place c at =
        elim (push_cases ms m place c at) [
          | inl there ↦ inl (subst (λ before. UsesUp task before c) (sym (taken_before place (below _ _ (slice_get_within ms place c there)))) (each place c there))
          | inr (e, same) ↦ inr (last _ _ _ e (length_pushed ms m), subst (CountsNone task) (sym same) none)
        ]
      where
        below : (a b : ℕ) → a < b → a ≤ b
        below a b lt = omega arith

        last : (a b n : ℕ) → a ≡ b → n ≡ b + 1 → a + 1 ≡ n
        last a b n e more = omega arith

  pub within_last : CountsNone task m → ((action : ℕ) → weight_of (counts task action) ms ≤ price task action) → (action : ℕ) → weight_of (counts task action) (cuts_meaning task.atoms new) ≤ price task action
  within_last none within action =
      subst (λ xs. weight_of (counts task action) xs ≤ price task action) (sym meant)
      (omega (arith, within action, weight_of-push (counts task action) ms m ∙ ap (λ b. weight_of (counts task action) ms + cond b m.weight 0) (none action)))

-- ---- the cuts in the end
pub lean_of : (task : TaskMeaning) (cuts : List CutMeaning) → EachUsesUp task cuts → AreLean task cuts
lean_of task cuts used place cut at = inl (used place cut at)

pub forced_by_one : (task : TaskMeaning) (state : Numbers) (cuts : List Cut) → All (IsFormed task.atoms) cuts → 0 < length cuts → AreForced task state (cuts_meaning task.atoms cuts)
forced_by_one task state [] formed some = absurd (omega arith)
forced_by_one task state (cut ∷ cuts) formed some = λ closure is lacks. at_least _ _ (All-head (IsFormed task.atoms) cut cuts formed).weight where
  at_least : (w rest : ℕ) → 0 < w → 1 ≤ w + rest
  at_least w rest lt = omega arith

-- before the first cut the closure is within the free closure
within_free : (task : TaskMeaning) (state closure free : Numbers) (left : List ℕ) → Leave task [] left → Spreads task left 0 state closure → IsFreeClosure task state free → set.is_subset closure free ≡ true
within_free task state closure free left leave spreads is = spreads.within free is.has_state closed where
  nothing : (l p : ℕ) → l ≤ 0 → l + 0 ≡ p → p ≡ 0
  nothing l p le e = omega arith

  free_of : (o : Option ℕ) → is_some o ≡ true → unwrap_or o 0 ≡ 0 → o ≡ Some 0
  free_of None there e = absurd (false≢true there)
  free_of (Some cost) there e = ap Some e

  closed : IsClosedUnder task left 0 free
  closed action usable =
      let parts = and_parts _ _ usable.does in
      is.closed action (free_of (cost_at task action) parts.0 (nothing _ _ usable.cheap (leave.each action usable.listed))) parts.1

pub forced_by_goal : (task : TaskMeaning) (state closure : Numbers) (cuts : List Cut) (left : List ℕ) → All (IsFormed task.atoms) cuts → Leave task (cuts_meaning task.atoms cuts) left
    → Spreads task left 0 state closure → set.is_subset task.goal closure ≡ true → AreForced task state (cuts_meaning task.atoms cuts)
forced_by_goal task state closure [] left formed leave spreads reached = λ free is lacks.
    absurd (both_ways _ lacks (subset-trans task.goal closure free reached (within_free task state closure free left leave spreads is)))
forced_by_goal task state closure (cut ∷ cuts) left formed leave spreads reached = forced_by_one task state (cut ∷ cuts) formed (omega arith)
