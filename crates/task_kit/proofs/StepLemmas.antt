-- The effect of a step on sets of atoms.
use Rattle.std.proofs.Common.{◌≡◌, ℕ, true, ◌&&◌, ◌||◌, not, sym, ap, ◌∙◌, inl, inr}
use Rattle.std.proofs.lemmas.Bool.{and_parts, and_from, or_cases}
use Rattle.std.specs.Cmp.{nat_cmp_total}
use Rattle.std.specs.FinSet as set
use Rattle.std.specs.FinSet.{contains-union, contains-difference, is_subset-contains, contains-is_subset}
use Rattle.task_kit.specs.Tasks.{Numbers, TaskMeaning, action_at, applies, after}

pub subset-trans : (s t u : Numbers) → set.is_subset s t ≡ true → set.is_subset t u ≡ true → set.is_subset s u ≡ true
subset-trans s t u st tu =
    contains-is_subset nat_cmp_total s u (λ q has. is_subset-contains nat_cmp_total t u tu q (is_subset-contains nat_cmp_total s t st q has))

-- the atoms that are true after a step
pub contains-after : (task : TaskMeaning) (action : ℕ) (state : Numbers) (q : ℕ)
    → set.contains (after task action state) q ≡ ((set.contains state q && not (set.contains (action_at task action).del q)) || set.contains (action_at task action).add q)
unfolding after
contains-after task action state q =
    contains-union nat_cmp_total _ _ q ∙ ap (λ b. b || set.contains (action_at task action).add q) (contains-difference nat_cmp_total state (action_at task action).del q)

-- a set that includes the state and the adds includes the successor
pub after_within : (task : TaskMeaning) (action : ℕ) (state among : Numbers) → set.is_subset state among ≡ true → set.is_subset (action_at task action).add among ≡ true → set.is_subset (after task action state) among ≡ true
after_within task action state among has adds =
    contains-is_subset nat_cmp_total _ among (λ q there.
    elim (or_cases _ _ (sym (contains-after task action state q) ∙ there)) [
      | inl stays ↦ is_subset-contains nat_cmp_total state among has q (and_parts _ _ stays).0
      | inr added ↦ is_subset-contains nat_cmp_total _ among adds q added
    ])

-- an action that applies in a state applies in each greater one
pub applies_more : (task : TaskMeaning) (action : ℕ) (state among : Numbers) → set.is_subset state among ≡ true → applies task action state ≡ true → applies task action among ≡ true
applies_more task action state among has does =
    and_from _ _ (and_parts _ _ does).0 (subset-trans (action_at task action).pre state among (and_parts _ _ does).1 has)
