-- In a graph with finitely many states it is decided whether some way of any length reaches a goal below a bound.
-- A way that comes back to a state could have begun there, so once a state is entered it need not be entered again: the states that may still be entered grow fewer.
use Rattle.std.proofs.Common.{◌≡◌, ℕ, ◌-◌, ◌<◌, ◌≤◌, zero, suc, Bool, true, false, cond, List, [], ◌∷◌, length, filter, Option, Some, None, refl, sym, ap, subst, ◌∙◌, arith, ⊎_elim, inl, inr}
use Rattle.std.specs.Prelude.{◌⊎◌, not, Contains}
use Rattle.std.specs.Bool.{Decides}
use Rattle.std.specs.List.{list_any}
use Rattle.std.proofs.lemmas.Bool.{true≢false, cases_Bool, cases_lt, not_from_true, not_from_false}
use Rattle.model_kit.proofs.StepLemmas.{listed_from_any, any_from_listed}
use Rattle.model_kit.proofs.FirstLemmas.{cons_cases}
use Rattle.mre_base.proofs.Loops.{contains_later}

module _ {S A : Type 0} (same : S → S → Bool) (decides : (s t : S) → Decides (same s t) (s ≡ t)) (step : S → A → Option (S × ℕ)) (goal : S → Bool) where
  -- a way from a state over states that may be entered to a goal, which costs less than the bound
  abbrev pub Reaches : (S → Type 0) → S → List A → ℕ → Type 0
  Reaches may s [] k = (goal s ≡ true) × (0 < k)
  Reaches may s (a ∷ as') k = (next : S × ℕ) × (step s a ≡ Some next) × may next.0 × Reaches may next.0 as' (k - next.1)

  reaches_more : (may more : S → Type 0) → ((s : S) → may s → more s) → (s : S) (as' : List A) (k n : ℕ) → k ≤ n → Reaches may s as' k → Reaches more s as' n
  reaches_more may more gives s [] k n le way = (way.0, omega (arith, way.1))
  reaches_more may more gives s (a ∷ as') k n le way = (way.0, way.1, gives way.0.0 way.2, reaches_more may more gives way.0.0 as' (k - way.0.1) (n - way.0.1) (omega arith) way.3)

  -- the states that may be entered, without one
  abbrev but : S → List S → List S
  but t states = filter (λ s. not (same t s)) states

  but_has : (t : S) (states : List S) (s : S) → Contains states s → same t s ≡ false → Contains (but t states) s
  but_has t [] s at apart = absurd (omega (arith, at.1))
  but_has t (x ∷ states) s at apart =
      ⊎_elim
      (λ is. subst (λ b. Contains (cond b (x ∷ but t states) (but t states)) s) (sym (not_from_false (same t x) (ap (same t) (sym is) ∙ apart))) (0, omega arith, sym is))
      (λ later. let deeper = but_has t states s later apart in kept deeper (cases_Bool (not (same t x))))
      (cons_cases x states s at)
    where
      kept : Contains (but t states) s → (not (same t x) ≡ true) ⊎ (not (same t x) ≡ false) → Contains (cond (not (same t x)) (x ∷ but t states) (but t states)) s
      kept deeper cases =
          ⊎_elim (λ e. subst (λ b. Contains (cond b (x ∷ but t states) (but t states)) s) (sym e) (contains_later x (but t states) s deeper))
          (λ e. subst (λ b. Contains (cond b (x ∷ but t states) (but t states)) s) (sym e) deeper) cases

  but_of : (t : S) (states : List S) (s : S) → Contains (but t states) s → Contains states s
  but_of t [] s at = absurd (omega (arith, at.1))
  but_of t (x ∷ states) s at = by (but_of t states s) (cases_Bool (not (same t x))) at
    where
      by : (Contains (but t states) s → Contains states s) → (not (same t x) ≡ true) ⊎ (not (same t x) ≡ false) → Contains (cond (not (same t x)) (x ∷ but t states) (but t states)) s → Contains (x ∷ states) s
      by deeper cases there =
          ⊎_elim
          (λ e. ⊎_elim (λ is. (0, omega arith, sym is)) (λ later. contains_later x states s (deeper later)) (cons_cases x (but t states) s (subst (λ b. Contains (cond b (x ∷ but t states) (but t states)) s) e there)))
          (λ e. contains_later x states s (deeper (subst (λ b. Contains (cond b (x ∷ but t states) (but t states)) s) e there)))
          cases

  but_le : (t : S) (states : List S) → length (but t states) ≤ length states
  but_le t [] = omega arith
  but_le t (x ∷ states) =
      let deeper = but_le t states in
      ⊎_elim (λ e. subst (λ b. length (cond b (x ∷ but t states) (but t states)) ≤ length (x ∷ states)) (sym e) (omega (arith, deeper)))
      (λ e. subst (λ b. length (cond b (x ∷ but t states) (but t states)) ≤ length (x ∷ states)) (sym e) (omega (arith, deeper)))
      (cases_Bool (not (same t x)))

  but_fewer : (t : S) (states : List S) → Contains states t → length (but t states) < length states
  but_fewer t [] at = absurd (omega (arith, at.1))
  but_fewer t (x ∷ states) at =
      ⊎_elim
      (λ is. subst (λ b. length (cond b (x ∷ but t states) (but t states)) < length (x ∷ states)) (sym (not_from_true (same t x) ((decides t x).1 is))) (omega (arith, but_le t states)))
      (λ later.
      let deeper = but_fewer t states later in
      ⊎_elim (λ e. subst (λ b. length (cond b (x ∷ but t states) (but t states)) < length (x ∷ states)) (sym e) (omega (arith, deeper)))
      (λ e. subst (λ b. length (cond b (x ∷ but t states) (but t states)) < length (x ∷ states)) (sym e) (omega (arith, deeper)))
      (cases_Bool (not (same t x))))
      (cons_cases x states t at)

  -- a way from u either never enters t, or has an end that begins at t and never comes back to it
  cut : (t : S) (states : List S) (u : S) (as' : List A) (k : ℕ) → Reaches (Contains states) u as' k
      → Reaches (Contains (but t states)) u as' k ⊎ ((later : List A) × Reaches (Contains (but t states)) t later k)
  cut t states u [] k way = inl way
  cut t states u (a ∷ as') k way =
      let less : k - way.0.1 ≤ k = omega arith in
      ⊎_elim
      (λ avoids. ⊎_elim
      (λ back. inr (
        as',
        reaches_more (Contains (but t states)) (Contains (but t states)) (λ s at. at) t as' (k - way.0.1) k less
            (subst (λ s. Reaches (Contains (but t states)) s as' (k - way.0.1)) (sym ((decides t way.0.0).0 back)) avoids),
      ))
      (λ apart. inl (way.0, way.1, but_has t states way.0.0 way.2 apart, avoids))
      (cases_Bool (same t way.0.0)))
      (λ enters. inr (enters.0, reaches_more (Contains (but t states)) (Contains (but t states)) (λ s at. at) t enters.0 (k - way.0.1) k less enters.1))
      (cut t states way.0.0 as' (k - way.0.1) way.3)

  module _ (actions : List A) (listed : (s : S) (a : A) (next : S × ℕ) → step s a ≡ Some next → Contains actions a) where
    -- some way, or none
    abbrev Found : (S → Type 0) → S → ℕ → Type 0
    Found may s k = ((as' : List A) × Reaches may s as' k) ⊎ ((as' : List A) → ¬ Reaches may s as' k)

    -- some way whose first action is listed, or none
    first_step : (states : List S) (s : S) (k : ℕ) → ((a : A) → ((as' : List A) × Reaches (Contains states) s (a ∷ as') k) ⊎ ((as' : List A) → ¬ Reaches (Contains states) s (a ∷ as') k)) → (some : List A)
        → ((a : A) (as' : List A) → Reaches (Contains states) s (a ∷ as') k → ¬ Contains some a) ⊎ ((a : A) × (as' : List A) × Reaches (Contains states) s (a ∷ as') k)
    first_step states s k by [] = inl (λ a as' way at. omega (arith, at.1))
    first_step states s k by (a ∷ some) =
        ⊎_elim
        (λ found. inr (a, found.0, found.1))
        (λ none. ⊎_elim
        (λ rest. inl (λ b as' way at. ⊎_elim (λ is. none as' (subst (λ c. Reaches (Contains states) s (c ∷ as') k) is way)) (λ later. rest b as' way later) (cons_cases a some b at)))
        (λ found. inr found)
        (first_step states s k by some))
        (by a)

    -- from what is known of the states after one is entered, whether some way begins with an action
    by_action : (states : List S) (s : S) (k : ℕ) → ((t : S) → Contains states t → (left : ℕ) → Found (Contains (but t states)) t left) → (a : A)
        → ((as' : List A) × Reaches (Contains states) s (a ∷ as') k) ⊎ ((as' : List A) → ¬ Reaches (Contains states) s (a ∷ as') k)
    by_action states s k further a = by (step s a) refl
      where
        enter : (next : S × ℕ) → step s a ≡ Some next → Contains states next.0 → Found (Contains (but next.0 states)) next.0 (k - next.1)
            → ((as' : List A) × Reaches (Contains states) s (a ∷ as') k) ⊎ ((as' : List A) → ¬ Reaches (Contains states) s (a ∷ as') k)
        enter next is there found =
            ⊎_elim
            (λ way. inl (way.0, (next, is, there, reaches_more (Contains (but next.0 states)) (Contains states) (but_of next.0 states) next.0 way.0 (k - next.1) (k - next.1) (omega arith) way.1)))
            (λ none. inr (λ as' way.
            let one : Some way.0 ≡ Some next = sym way.1 ∙ is in
            let state : way.0 ≡ next = cc in
            let rest : Reaches (Contains states) next.0 as' (k - next.1) = subst (λ (n : S × ℕ). Reaches (Contains states) n.0 as' (k - n.1)) state way.3 in
            ⊎_elim (λ avoids. none as' avoids) (λ enters. none enters.0 enters.1) (cut next.0 states next.0 as' (k - next.1) rest)))
            found

        by : (o : Option (S × ℕ)) → step s a ≡ o → ((as' : List A) × Reaches (Contains states) s (a ∷ as') k) ⊎ ((as' : List A) → ¬ Reaches (Contains states) s (a ∷ as') k)
        by None is = inr (λ as' way. let one : Some way.0 ≡ None = sym way.1 ∙ is in absurd (cc))
        by (Some next) is =
            ⊎_elim
            (λ there. let at = listed_from_any same decides next.0 states there in enter next is at (further next.0 at (k - next.1)))
            (λ away. inr (λ as' way.
            let one : Some way.0 ≡ Some next = sym way.1 ∙ is in
            let state : way.0 ≡ next = cc in
            true≢false (sym (any_from_listed same decides next.0 states (subst (λ (n : S × ℕ). Contains states n.0) state way.2)) ∙ away)))
            (cases_Bool (list_any (same next.0) states))

    -- whether some way begins at a state
    by_steps : (states : List S) (s : S) (k : ℕ) → ((t : S) → Contains states t → (left : ℕ) → Found (Contains (but t states)) t left) → Found (Contains states) s k
    by_steps states s k further =
        ⊎_elim
        (λ here. ⊎_elim (λ positive. inl ([], (here, positive))) (λ none. later (λ way. omega (arith, way.1, none))) (cases_lt 0 k))
        (λ open_goal. later (λ way. true≢false (sym way.0 ∙ open_goal)))
        (cases_Bool (goal s))
      where
        later : ¬ Reaches (Contains states) s [] k → Found (Contains states) s k
        later not_here =
            ⊎_elim
            (λ none. inr (λ as' way. no_way none as' way))
            (λ found. inl (found.0 ∷ found.1, found.2))
            (first_step states s k (by_action states s k further) actions)
          where
            no_way : ((a : A) (as' : List A) → Reaches (Contains states) s (a ∷ as') k → ¬ Contains actions a) → (as' : List A) → Reaches (Contains states) s as' k → ⊥
            no_way none [] way = not_here way
            no_way none (a ∷ as') way = none a as' way (listed s a way.0 way.1)

    decide : (n : ℕ) (states : List S) → length states ≤ n → (s : S) (k : ℕ) → Found (Contains states) s k
    decide zero states few s k = by_steps states s k (λ t at left. absurd (omega (arith, at.1)))
    decide (suc n) states few s k = by_steps states s k (λ t at left. decide n (but t states) (omega (arith, but_fewer t states at)) t left)

    -- it is decided whether a goal is reached from a state below a bound
    pub decided_way : (states : List S) (s : S) (k : ℕ) → ((as' : List A) × Reaches (Contains states) s as' k) ⊎ ((as' : List A) → ¬ Reaches (Contains states) s as' k)
    decided_way states s k = decide (length states) states (omega arith) s k
