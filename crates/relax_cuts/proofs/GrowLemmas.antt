-- The growth of sets of atoms.
use Rattle.std.proofs.Common.{◌≡◌, ℕ, zero, suc, ◌+◌, ◌≤◌, ◌<◌, Bool, true, false, cond, List, refl, sym, ap, ◌∙◌, arith, subst, ◌⊎◌, inl, inr}
use Rattle.std.proofs.lemmas.Bool.{or_cases, or_left, or_right, eq-eqb, eqb-true, cases_lt}
use Rattle.std.specs.Cmp.{nat_cmp_total}
use Rattle.std.specs.FinSet as set
use Rattle.std.specs.FinSet.{is_subset-contains, contains-is_subset}
use Rattle.mre_base.proofs.SetsBelow.{contains-insert_nat, has_inserted, has_before, insert_cases}
use Rattle.task_kit.specs.Tasks.{Numbers, TaskMeaning, IsTask, action_at}
use Rattle.task_kit.proofs.StepLemmas.{subset-trans, applies_more}
use Rattle.relax_cuts.specs.Closing.{IsUsable, IsLoose, Spreads, AddsSome}

-- ---- one more atom
pub subset-itself : (s : Numbers) → set.is_subset s s ≡ true
subset-itself s = contains-is_subset nat_cmp_total s s (λ q there. there)

pub insert_grows : (s : Numbers) (x : ℕ) → set.is_subset s (set.insert s x) ≡ true
insert_grows s x = contains-is_subset nat_cmp_total s (set.insert s x) (λ q there. has_before s x q there)

-- ---- some of the adds of an action
pub adds_none : (adds s : Numbers) → AddsSome adds s s
adds_none adds s = record { grows = subset-itself s; only = λ q there. inl there }

pub adds_more : (adds old mid new : Numbers) (x : ℕ) → AddsSome adds old mid → set.contains adds x ≡ true → new ≡ set.insert mid x → AddsSome adds old new
adds_more adds old mid new x some wanted is =
    subst (AddsSome adds old) (sym is) (record {
      grows = subset-trans old mid (set.insert mid x) some.grows (insert_grows mid x);
      only = λ q there.
          elim (insert_cases mid x q there) [
            | inl same ↦ inr (ap (set.contains adds) same ∙ wanted)
            | inr h ↦ some.only q h
          ];
    })

module _ (task : TaskMeaning) (left : List ℕ) (limit : ℕ) where
  -- ---- by usable actions
  pub spreads_none : (s : Numbers) → Spreads task left limit s s
  spreads_none s = record { grows = subset-itself s; within = λ other has _. has; below = λ below. below }

  pub spreads-trans : (s t u : Numbers) → Spreads task left limit s t → Spreads task left limit t u → Spreads task left limit s u
  spreads-trans s t u one two =
      record {
        grows = subset-trans s t u one.grows two.grows;
        within = λ other has closed. two.within other (one.within other has closed) closed;
        below = λ below. two.below (one.below below);
      }

  still_usable : (action : ℕ) (s other : Numbers) → set.is_subset s other ≡ true → IsUsable task left limit action s → IsUsable task left limit action other
  still_usable action s other has usable = record { listed = usable.listed; cheap = usable.cheap; does = applies_more task action s other has usable.does }

  pub spreads_adds : (action : ℕ) (old new : Numbers) → IsTask task → IsUsable task left limit action old → AddsSome (action_at task action).add old new → Spreads task left limit old new
  spreads_adds action old new is usable some =
      record {
        grows = some.grows;
        within = λ other has closed.
            contains-is_subset nat_cmp_total new other (λ q there.
            elim (some.only q there) [
              | inl was ↦ is_subset-contains nat_cmp_total old other has q was
              | inr added ↦ is_subset-contains nat_cmp_total (action_at task action).add other (closed action (still_usable action old other has usable)) q added
            ]);
        below = λ below q there.
            elim (some.only q there) [
              | inl was ↦ below q was
              | inr added ↦ (is.each action).add q added
            ];
      }

  -- one more loose atom
  pub spreads_loose : (s new : Numbers) (atom : ℕ) → IsTask task → IsLoose task left limit s atom → new ≡ set.insert s atom → Spreads task left limit s new
  spreads_loose s new atom is loose e =
      spreads_adds loose.action s new is loose.usable
      (adds_more (action_at task loose.action).add s s new atom (adds_none (action_at task loose.action).add s) loose.added e)

-- ---- the number of numbers below a bound that a set lacks
abbrev pub lacked_below : ℕ → Numbers → ℕ
lacked_below zero s = 0
lacked_below (suc n) s = cond (set.contains s n) 0 1 + lacked_below n s

one_le : (a b : Bool) → (a ≡ true → b ≡ true) → cond b 0 1 ≤ cond a 0 1
one_le true b h = subst (λ v. cond v 0 1 ≤ 0) (sym (h refl)) (omega arith)
one_le false true h = omega arith
one_le false false h = omega arith

one_lt : (a b : Bool) → a ≡ false → b ≡ true → cond b 0 1 < cond a 0 1
one_lt true b out there = absurd (cc)
one_lt false true out there = omega arith
one_lt false false out there = absurd (cc)

le_sum : (a b c d : ℕ) → a ≤ b → c ≤ d → a + c ≤ b + d
le_sum a b c d one two = omega arith

lt_sum : (a b c d : ℕ) → a < b → c ≤ d → a + c < b + d
lt_sum a b c d one two = omega arith

sum_lt : (a b c d : ℕ) → a ≤ b → c < d → a + c < b + d
sum_lt a b c d one two = omega arith

module _ (s t : Numbers) (grows : (q : ℕ) → set.contains s q ≡ true → set.contains t q ≡ true) where
  lacked-le : (n : ℕ) → lacked_below n t ≤ lacked_below n s
  lacked-le zero = omega arith
  lacked-le (suc n) = le_sum _ _ _ _ (one_le (set.contains s n) (set.contains t n) (grows n)) (lacked-le n)

  lacked-lt : (n x : ℕ) → x < n → set.contains s x ≡ false → set.contains t x ≡ true → lacked_below n t < lacked_below n s
  lacked-lt zero x lt out there = absurd (omega arith)
  lacked-lt (suc n) x lt out there =
      elim (cases_lt x n) [
        | inl less ↦ sum_lt _ _ _ _ (one_le (set.contains s n) (set.contains t n) (grows n)) (lacked-lt n x less out there)
        | inr past ↦
            let same : x ≡ n = omega arith in
            lt_sum _ _ _ _ (one_lt (set.contains s n) (set.contains t n) (ap (set.contains s) (sym same) ∙ out) (ap (set.contains t) (sym same) ∙ there)) (lacked-le n)
      ]

-- one less after an insertion of a number that the set lacked
pub lacked_less : (bound : ℕ) (s new : Numbers) (x : ℕ) → x < bound → set.contains s x ≡ false → new ≡ set.insert s x → lacked_below bound new < lacked_below bound s
lacked_less bound s new x lt out e =
    subst (λ t. lacked_below bound t < lacked_below bound s) (sym e)
    (lacked-lt s (set.insert s x) (λ q there. has_before s x q there) bound x lt out (has_inserted s x))
