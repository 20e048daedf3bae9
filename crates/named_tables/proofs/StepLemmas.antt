-- Named states and sets of numbers, side by side: what applies, what comes after, and what is valid.
use Rattle.std.proofs.Common.{◌≡◌, ℕ, ◌+◌, ◌≤◌, ◌<◌, Bool, true, false, ◌&&◌, ◌||◌, not, is_some, List, [], ◌∷◌, Option, Some, None, unwrap_or, refl, sym, ap, ◌∙◌, arith, subst, ⊎_elim, inl, inr}
use Rattle.std.specs.Prelude.{◌↔◌, ◌⊎◌, slice_get}
use Rattle.std.specs.FinSet as set
use Rattle.std.specs.FinSet.{is_subset-contains, contains-is_subset}
use Rattle.std.specs.Cmp.{nat_cmp_total}
use Rattle.std.proofs.lemmas.Bool.{and_parts, and_from, or_cases, or_left, or_right, true≢false, false≢true, not-true, not_from_false, false_from_ne_true}
use Rattle.std.proofs.lemmas.List.Sums.{sum_by-cons}
use Rattle.model_kit.specs.declared.atom.GroundAtom.{GroundAtom}
use Rattle.model_kit.specs.declared.action.GroundAction.{GroundAction}
use Rattle.model_kit.specs.Places.{Init, Goal, Meaning}
use Rattle.model_kit.specs.Runs as named
use Rattle.model_kit.specs.Runs.{Has, State, Needs, Adds, Deletes, cost_of, Applies, After, Leads, IsGoal}
use Rattle.task_kit.specs.Tasks as numbered
use Rattle.task_kit.specs.Tasks.{Numbers, ActionMeaning, TaskMeaning, action_at, cost_at, price, applies, after, IsValidFrom}
use Rattle.task_kit.proofs.StepLemmas.{contains-after}
use Rattle.named_tables.specs.Numbered as run
use Rattle.named_tables.proofs.CaseLemmas.{AreNumbered}

-- an action in numbers
pub record IsActionIn (n : ℕ) (number : GroundAtom → ℕ) (model : Meaning) (action : GroundAction) (a : ActionMeaning) : Type 0 where
  pub pre : AreNumbered number (Needs model action) a.pre
  pub add : AreNumbered number (Adds model action) a.add
  pub del : AreNumbered number (Deletes model action) a.del
  pub cost : cost_of model action ≡ a.cost
  pub listed : (atom : GroundAtom) → Adds model action atom → number atom < n

-- a model in numbers, as far as these actions go
pub record IsModelIn (n : ℕ) (number : GroundAtom → ℕ) (actions : List GroundAction) (model : Meaning) (task : TaskMeaning) : Type 0 where
  pub most : (atom : GroundAtom) → number atom ≤ n
  pub one : (a b : GroundAtom) → number a < n → number a ≡ number b → a ≡ b
  pub start : AreNumbered number (λ atom. Has model (Init atom)) task.start
  pub goal : AreNumbered number (λ atom. Has model (Goal atom)) task.goal
  pub each : (k : ℕ) (action : GroundAction) → slice_get actions k ≡ Some action → IsActionIn n number model action (action_at task k)
  pub past : (k : ℕ) → slice_get actions k ≡ None → cost_at task k ≡ None
  pub listed : (atom : GroundAtom) → Has model (Init atom) → number atom < n

module _ (n : ℕ) (number : GroundAtom → ℕ) (actions : List GroundAction) (model : Meaning) (task : TaskMeaning) (is : IsModelIn n number actions model task) where
  -- the set has the numbers of the atoms that are true, and not the number of what never is
  pub record Stands (state : State) (bits : Numbers) : Type 0 where
    pub no_other : set.contains bits n ≡ false
    pub each : (atom : GroundAtom) → state atom ↔ (set.contains bits (number atom) ≡ true)

  below : (bits : Numbers) → set.contains bits n ≡ false → (atom : GroundAtom) → set.contains bits (number atom) ≡ true → number atom < n
  below bits none atom there =
      ⊎_elim (λ (lt : number atom < n). lt) (λ (same : number atom ≡ n). absurd (false≢true (sym none ∙ ap (set.contains bits) (sym same) ∙ there))) (split (number atom) (is.most atom))
    where
      split : (m : ℕ) → m ≤ n → (m < n) ⊎ (m ≡ n)
      split m le = grind arith

  start_stands : Stands (λ atom. Has model (Init atom)) task.start
  start_stands = record {
    no_other = false_from_ne_true (set.contains task.start n) (λ there. let (atom, has, at) = (is.start n).0 there in let lt = is.listed atom has in omega (arith, lt, at));
    each = λ atom. (
      λ has. (is.start (number atom)).1 (atom, has, refl),
      λ there. let (other, has, at) = (is.start (number atom)).0 there in
          subst (λ a. Has model (Init a)) (is.one other atom (is.listed other has) at) has,
    );
  }

  -- what is wanted is there exactly where its numbers are
  wanted : (state : State) (bits : Numbers) → Stands state bits → (P : GroundAtom → Type 0) (numbers : Numbers) → AreNumbered number P numbers →
      ((atom : GroundAtom) → P atom → state atom) ↔ (set.is_subset numbers bits ≡ true)
  wanted state bits stands P numbers are = (
    λ met. contains-is_subset nat_cmp_total numbers bits (λ k there. let (atom, so, at) = (are k).0 there in
        subst (λ i. set.contains bits i ≡ true) at ((stands.each atom).0 (met atom so))),
    λ subset atom so. (stands.each atom).1 (is_subset-contains nat_cmp_total numbers bits subset (number atom) ((are (number atom)).1 (atom, so, refl))),
  )

  module _ (k : ℕ) (action : GroundAction) (at : slice_get actions k ≡ Some action) where
    a : IsActionIn n number model action (action_at task k)
    a = is.each k action at

    pub applies_stands : (state : State) (bits : Numbers) → Stands state bits → Applies model state action ↔ (applies task k bits ≡ true)
    applies_stands state bits stands =
        let needed = wanted state bits stands (Needs model action) (action_at task k).pre a.pre in (
          λ does. and_from _ _ (sym (ap is_some a.cost) ∙ does.priced) (needed.0 does.met),
          λ does. record { priced = ap is_some a.cost ∙ (and_parts _ _ does).0; met = needed.1 (and_parts _ _ does).1 },
        )

    added : (atom : GroundAtom) → set.contains (action_at task k).add (number atom) ≡ true → Adds model action atom
    added atom there =
        let (other, adds, same) = (a.add (number atom)).0 there in subst (Adds model action) (is.one other atom (a.listed other adds) same) adds

    deleted : (atom : GroundAtom) → number atom < n → set.contains (action_at task k).del (number atom) ≡ true → Deletes model action atom
    deleted atom lt there =
        let (other, deletes, same) = (a.del (number atom)).0 there in subst (Deletes model action) (sym (is.one atom other lt (sym same))) deletes

    pub after_stands : (state : State) (bits : Numbers) → Stands state bits → Stands (After model state action) (after task k bits)
    after_stands state bits stands = record {
      no_other = contains-after task k bits n ∙ none (set.contains bits n) (set.contains (action_at task k).del n) (set.contains (action_at task k).add n) stands.no_other
          (false_from_ne_true (set.contains (action_at task k).add n) (λ there. let (atom, adds, same) = (a.add n).0 there in let lt = a.listed atom adds in omega (arith, lt, same)));
      each = λ atom. (λ h. contains-after task k bits (number atom) ∙ there atom h, λ h. back atom (sym (contains-after task k bits (number atom)) ∙ h));
    }
      where
        none : (x y z : Bool) → x ≡ false → z ≡ false → ((x && not y) || z) ≡ false
        none x y z ex ez = (λ i. (ex i && not y) || ez i)

        there : (atom : GroundAtom) → After model state action atom → ((set.contains bits (number atom) && not (set.contains (action_at task k).del (number atom))) || set.contains (action_at task k).add (number atom)) ≡ true
        there atom (inl (holds, spared)) =
            let on = (stands.each atom).0 holds in
            or_left (set.contains bits (number atom) && not (set.contains (action_at task k).del (number atom))) (set.contains (action_at task k).add (number atom))
            (and_from (set.contains bits (number atom)) (not (set.contains (action_at task k).del (number atom))) on
            (not_from_false (set.contains (action_at task k).del (number atom))
            (false_from_ne_true (set.contains (action_at task k).del (number atom)) (λ gone. spared (deleted atom (below bits stands.no_other atom on) gone)))))
        there atom (inr adds) = or_right (set.contains bits (number atom) && not (set.contains (action_at task k).del (number atom))) (set.contains (action_at task k).add (number atom)) ((a.add (number atom)).1 (atom, adds, refl))

        back : (atom : GroundAtom) → ((set.contains bits (number atom) && not (set.contains (action_at task k).del (number atom))) || set.contains (action_at task k).add (number atom)) ≡ true → After model state action atom
        back atom h =
            elim (or_cases (set.contains bits (number atom) && not (set.contains (action_at task k).del (number atom))) (set.contains (action_at task k).add (number atom)) h) [
              | inl stays ↦
                  let (on, kept) = and_parts (set.contains bits (number atom)) (not (set.contains (action_at task k).del (number atom))) stays in
                  inl ((stands.each atom).1 on, λ deletes. true≢false (sym ((a.del (number atom)).1 (atom, deletes, refl)) ∙ not-true (set.contains (action_at task k).del (number atom)) kept))
              | inr adds ↦ inr (added atom adds)
            ]

  -- a list of listed actions is valid exactly where its numbers are
  valid_to : (list : List ℕ) (plan : List GroundAction) (state : State) (bits : Numbers) → run.AreNumbersOf actions list plan → Stands state bits → Leads model state plan (IsGoal model) → IsValidFrom task bits list
  valid_to [] [] state bits are stands goal = (wanted state bits stands (λ atom. Has model (Goal atom)) task.goal is.goal).0 goal
  valid_to [] (action ∷ plan) state bits are stands runs = absurd are
  valid_to (k ∷ list) [] state bits are stands runs = absurd are
  valid_to (k ∷ list) (action ∷ plan) state bits (at, rest) stands (does, runs) =
      ((applies_stands k action at state bits stands).0 does, valid_to list plan (After model state action) (after task k bits) rest (after_stands k action at state bits stands) runs)

  valid_back : (list : List ℕ) (plan : List GroundAction) (state : State) (bits : Numbers) → run.AreNumbersOf actions list plan → Stands state bits → IsValidFrom task bits list → Leads model state plan (IsGoal model)
  valid_back [] [] state bits are stands goal = (wanted state bits stands (λ atom. Has model (Goal atom)) task.goal is.goal).1 goal
  valid_back [] (action ∷ plan) state bits are stands runs = absurd are
  valid_back (k ∷ list) [] state bits are stands runs = absurd are
  valid_back (k ∷ list) (action ∷ plan) state bits (at, rest) stands (does, runs) =
      ((applies_stands k action at state bits stands).1 does, valid_back list plan (After model state action) (after task k bits) rest (after_stands k action at state bits stands) runs)

  pub valid_numbers : (plan : List GroundAction) (list : List ℕ) → run.AreNumbersOf actions list plan → named.IsValid model plan ↔ numbered.IsValid task list
  valid_numbers plan list are = (valid_to list plan (named.Initial model) task.start are start_stands, valid_back list plan (named.Initial model) task.start are start_stands)

  pub cost_numbers : (plan : List GroundAction) (list : List ℕ) → run.AreNumbersOf actions list plan → named.cost model plan ≡ numbered.cost_of task list
  cost_numbers [] [] are = refl
  cost_numbers [] (k ∷ list) are = absurd are
  cost_numbers (action ∷ plan) [] are = absurd are
  cost_numbers (action ∷ plan) (k ∷ list) (at, rest) =
      sum_by-cons (λ a. unwrap_or (cost_of model a) 0) action plan ∙ (λ i. unwrap_or ((is.each k action at).cost i) 0 + cost_numbers plan list rest i)

  -- what applies has a number of the list
  pub applies_listed : (k : ℕ) (bits : Numbers) → applies task k bits ≡ true → (action : GroundAction) × (slice_get actions k ≡ Some action)
  applies_listed k bits does = by (slice_get actions k) refl
    where
      by : (o : Option GroundAction) → slice_get actions k ≡ o → (action : GroundAction) × (slice_get actions k ≡ Some action)
      by None none = absurd (false≢true (sym (ap is_some (is.past k none)) ∙ (and_parts _ _ does).0))
      by (Some action) at = (action, at)

  pub plan_of : (list : List ℕ) (bits : Numbers) → IsValidFrom task bits list → (plan : List GroundAction) × run.AreNumbersOf actions list plan
  plan_of [] bits goal = ([], tt)
  plan_of (k ∷ list) bits (does, runs) =
      let (action, at) = applies_listed k bits does in
      let (plan, are) = plan_of list (after task k bits) runs in
      (action ∷ plan, (at, are))
