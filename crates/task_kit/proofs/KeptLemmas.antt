-- The meanings of the lists of a kept task.
use Rattle.std.proofs.Common.{◌≡◌, ℕ, ◌+◌, ◌^◌, ◌≤◌, ◌<◌, List, length, get_or, refl, inl, inr, Some, unwrap_or, All, sym, ap, ◌∙◌, subst, arith}
use Rattle.std.specs.Option.{option_map}
use Rattle.std.proofs.lemmas.Bool.{cases_lt, or_cases, eqb-true, false≢true}
use Rattle.std.proofs.lemmas.List.{get_or_default, length-map}
use Rattle.std.proofs.lemmas.List.Elements.{All-get_or}
use Rattle.std.proofs.lemmas.Option.{slice_get-map, slice_get_past, get_or_from_slice_get}
use Rattle.std.specs.Ordering.{nat_cmp}
use Rattle.std.specs.FinSet.{contains-empty}
use Rattle.mre_base.proofs.SetsBelow.{contains-insert_nat}
use Rattle.std.specs.List.{slice_get}
use Rattle.std.specs.FinSet as set
use Rattle.mre_base.specs.Sets.{BitSet}
use Rattle.task_kit.specs.declared.action.TaskAction.{TaskAction}
use Rattle.task_kit.specs.Tasks.{Numbers, set_of, no_action, action_at, after, as_bits, AllBelow, IsAction, IsTask}
use Rattle.task_kit.specs.Kept.{action_meaning, task_meaning}
use Rattle.task_kit.proofs.AtomLemmas.{listed_in, in_list, same_bits}
use Rattle.mre_base.proofs.Listed.{item_at}

-- the listed atoms are below a bound
pub all_below : (bound width : ℕ) (xs ys : List ℕ) → ys ≡ xs → AllBelow bound (set_of xs) → bound ≤ width → All (λ x. x < width) ys
all_below bound width xs ys e below le =
    subst (All (λ x. x < width)) (sym e) (λ k d lt. least (get_or xs k d) (get_or xs k 0) (get_or_default xs k d 0 lt) (below (get_or xs k 0) (listed_in xs k lt))) where
      least : (x y : ℕ) → x ≡ y → y < bound → x < width
      least x y same lt = omega arith

-- the set of listed numbers below a bound
pub below_listed : (bound : ℕ) (xs : List ℕ) → All (λ x. x < bound) xs → AllBelow bound (set_of xs)
below_listed bound xs each k there =
    let found = in_list xs k there in
    subst (λ x. x < bound) found.2 (each found.0 0 found.1)

-- an action whose lists are in their ranges
pub lists_in_range : (atoms : ℕ) (action : TaskAction) → All (λ x. x < atoms + 1) action.pre → All (λ x. x < atoms) action.add → All (λ x. x < atoms + 1) action.del → unwrap_or action.cost 0 < 2 ^ 32 → IsAction atoms (action_meaning action)
lists_in_range atoms action pre add del cost = record { pre = below_listed _ action.pre pre; add = below_listed _ action.add add; del = below_listed _ action.del del; cost = cost }

pub below_none : (bound : ℕ) (s : Numbers) → s ≡ set.empty → AllBelow bound s
below_none bound s e k there = absurd (false≢true (sym (contains-empty nat_cmp k) ∙ ap (λ t. set.contains t k) (sym e) ∙ there))

pub below_more : (bound x : ℕ) (s t : Numbers) → AllBelow bound s → x < bound → t ≡ set.insert s x → AllBelow bound t
below_more bound x s t below lt e k there =
    elim (or_cases _ _ (sym (contains-insert_nat s x k) ∙ ap (λ u. set.contains u k) (sym e) ∙ there)) [
      | inl same ↦ subst (λ j. j < bound) (sym (eqb-true k x same)) lt
      | inr h ↦ below k h
    ]

module _ (atoms : ℕ) (start goal : BitSet) (actions : List TaskAction) where
  pub action_kept : (i : ℕ) (a : TaskAction) → slice_get actions i ≡ Some a → action_at (task_meaning atoms start goal actions) i ≡ action_meaning a
  action_kept i a e = ap (λ o. unwrap_or o no_action) (slice_get-map action_meaning actions i ∙ ap (option_map action_meaning) e)

  pub in_range_at : (i : ℕ) (a : TaskAction) → slice_get actions i ≡ Some a → IsTask (task_meaning atoms start goal actions) → IsAction atoms (action_meaning a)
  in_range_at i a e task = subst (IsAction atoms) (action_kept i a e) (task.each i)

  -- the successor by the listed deletes and adds
  pub next_kept : (i : ℕ) (a : TaskAction) (state copied without with : BitSet) (del add : List ℕ) → slice_get actions i ≡ Some a → state.width ≡ atoms + 1 → copied ≡ state
      → del ≡ a.del → without ≡ record { width = copied.width; members = set.difference copied.members (set_of del) }
      → add ≡ a.add → with ≡ record { width = without.width; members = set.union without.members (set_of add) }
      → with ≡ as_bits (task_meaning atoms start goal actions) (after (task_meaning atoms start goal actions) i state.members)
  unfolding after
  next_kept i a state copied without with del add e wide ec ed ew ea is =
      let members : set.union without.members (set_of add) ≡ set.union (set.difference copied.members (set_of del)) (set_of a.add) = λ j. set.union ((ap (λ b. b.members) ew) j) (set_of (ea j)) in
      let listed : set.union (set.difference copied.members (set_of del)) (set_of a.add) ≡ set.union (set.difference state.members (set_of a.del)) (set_of a.add) =
      λ j. set.union (set.difference ((ap (λ b. b.members) ec) j) (set_of (ed j))) (set_of a.add) in
      is
      ∙ same_bits _ _ _ _ (ap (λ b. b.width) ew ∙ ap (λ b. b.width) ec ∙ wide)
      (members ∙ listed ∙ sym (ap (λ m. set.union (set.difference state.members m.del) m.add) (action_kept i a e)))

  -- the action at a number that isn't listed has no number out of its range
  unlisted_in_range : IsAction atoms no_action
  unlisted_in_range = record { pre = below_none _ _ refl; add = below_none _ _ refl; del = below_none _ _ refl; cost = omega arith }

  -- a kept task whose actions are each in range
  pub kept_in_range : atoms + 1 < 2 ^ 32 → length actions < 2 ^ 32 → AllBelow atoms start.members → AllBelow (atoms + 1) goal.members → All (λ action. IsAction atoms (action_meaning action)) actions → IsTask (task_meaning atoms start goal actions)
  kept_in_range few_atoms few_actions below goals each =
      record {
        few_atoms = few_atoms;
        few_actions = omega (arith, length-map actions action_meaning);
        start = below;
        goal = goals;
        each = in_range;
      }
    where
      by_place : {i : ℕ} → (a : TaskAction) × (slice_get actions i ≡ Some a) → i < length actions → IsAction atoms (action_at (task_meaning atoms start goal actions) i)
      by_place {i} (a, here) lt =
          subst (IsAction atoms) (sym (action_kept i a here ∙ ap action_meaning (sym (get_or_from_slice_get actions i a a here)))) (All-get_or (λ action. IsAction atoms (action_meaning action)) actions i a lt each)

      in_range : (i : ℕ) → IsAction atoms (action_at (task_meaning atoms start goal actions) i)
      in_range i = elim (cases_lt i (length actions)) [
        | inl lt ↦ by_place (item_at actions i lt) lt
        | inr past ↦ subst (IsAction atoms) (sym (ap (λ o. unwrap_or o no_action) (slice_get-map action_meaning actions i ∙ ap (option_map action_meaning) (slice_get_past actions i past)))) unlisted_in_range
      ]
