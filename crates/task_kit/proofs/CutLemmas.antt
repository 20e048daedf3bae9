-- The law of cuts. A cut is open at a state that its set contains. At each step an open cut stays open or counts the action, and at the goal no cut is open.
use Rattle.std.proofs.Common.{◌≡◌, ℕ, ◌+◌, ◌≤◌, List, [], ◌∷◌, Bool, true, false, ◌&&◌, not, nat_lt, ◌<◌, cond, refl, sym, ap, ◌∙◌, arith, All, ◌⊎◌, inl, inr}
use Rattle.std.proofs.lemmas.Bool.{and_from, cases_Bool, not_from_false, both_ways, false_from_ne_true}
use Rattle.std.proofs.lemmas.List.Elements.{All-head, All-tail}
use Rattle.std.proofs.lemmas.Bool.Decides.{nat_tests}
use Rattle.std.specs.FinSet as set
use Rattle.mre_base.specs.SameSets.{same_members}
use Rattle.mre_base.proofs.SetsBelow.{contains-set_below}
use Rattle.task_kit.specs.Kept.{all_but}
use Rattle.task_kit.specs.Tasks.{Numbers, TaskMeaning, set_of, AllBelow, action_at, price, applies, after, IsValidFrom, cost_of}
use Rattle.task_kit.specs.Cuts.{CutMeaning, counts, weight_of, weights, IsCutOf, AreLawful, CutLaw}
use Rattle.task_kit.proofs.StepLemmas.{subset-trans, after_within, applies_more}

-- the cut is open at the state
abbrev open_at : Numbers → CutMeaning → Bool
open_at state cut = set.is_subset state cut.among

-- at each step an open cut stays open or counts the action
stays_or_counts : (task : TaskMeaning) (action : ℕ) (state : Numbers) (cut : CutMeaning) → applies task action state ≡ true → open_at state cut ≡ true
    → (open_at (after task action state) cut ≡ true) ⊎ (counts task action cut ≡ true)
stays_or_counts task action state cut does has =
    elim (cases_Bool (set.is_subset (action_at task action).add cut.among)) [
      | inl adds ↦ inl (after_within task action state cut.among has adds)
      | inr out ↦ inr (and_from _ _ (applies_more task action state cut.among has does) (not_from_false _ out))
    ]

one_splits : (a b c : Bool) (w : ℕ) → (a ≡ true → (b ≡ true) ⊎ (c ≡ true)) → cond a w 0 ≤ cond b w 0 + cond c w 0
one_splits false b c w _ = omega arith
one_splits true true c w _ = omega arith
one_splits true false true w _ = omega arith
one_splits true false false w h = absurd (elim (h refl) [ inl e ↦ cc | inr e ↦ cc ])

four_sum : (a b c x y z : ℕ) → a ≤ b + c → x ≤ y + z → a + x ≤ (b + y) + (c + z)
four_sum a b c x y z le more = omega arith

splits : (task : TaskMeaning) (action : ℕ) (state : Numbers) (cuts : List CutMeaning) → applies task action state ≡ true
    → weight_of (open_at state) cuts ≤ weight_of (open_at (after task action state)) cuts + weight_of (counts task action) cuts
splits task action state [] does = omega arith
splits task action state (cut ∷ cuts) does =
    four_sum _ _ _ _ _ _ (one_splits _ _ _ cut.weight (stays_or_counts task action state cut does)) (splits task action state cuts does)

none_open : (task : TaskMeaning) (start state : Numbers) (cuts : List CutMeaning) → All (IsCutOf task start) cuts → set.is_subset task.goal state ≡ true → weight_of (open_at state) cuts ≡ 0
none_open task start state [] each reached = refl
none_open task start state (cut ∷ cuts) each reached =
    let is : IsCutOf task start cut = All-head (IsCutOf task start) cut cuts each in
    let shut : open_at state cut ≡ false = false_from_ne_true _ (λ has. both_ways _ is.lacks_goal (subset-trans task.goal state cut.among reached has)) in
    ap (λ b. cond b cut.weight 0 + weight_of (open_at state) cuts) shut ∙ ap (λ n. 0 + n) (none_open task start state cuts (All-tail (IsCutOf task start) cut cuts each) reached)

all_open : (task : TaskMeaning) (state : Numbers) (cuts : List CutMeaning) → All (IsCutOf task state) cuts → weight_of (open_at state) cuts ≡ weights cuts
all_open task state [] each = refl
all_open task state (cut ∷ cuts) each =
    let is : IsCutOf task state cut = All-head (IsCutOf task state) cut cuts each in
    ap (λ b. cond b cut.weight 0 + weight_of (open_at state) cuts) is.has_state ∙ ap (λ n. cut.weight + n) (all_open task state cuts (All-tail (IsCutOf task state) cut cuts each))

step_sum : (old new counted price rest : ℕ) → old ≤ new + counted → counted ≤ price → new ≤ rest → old ≤ price + rest
step_sum old new counted price rest split within more = omega arith

-- the cuts that are open at a state weigh at most what a list from it costs
open_within : (task : TaskMeaning) (start : Numbers) (cuts : List CutMeaning) → AreLawful task start cuts → (state : Numbers) (list : List ℕ) → IsValidFrom task state list → weight_of (open_at state) cuts ≤ cost_of task list
open_within task start cuts lawful state [] valid = omega (arith, none_open task start state cuts lawful.each valid)
open_within task start cuts lawful state (action ∷ list) valid =
    step_sum _ _ _ (price task action) (cost_of task list) (splits task action state cuts valid.0) (lawful.within action) (open_within task start cuts lawful (after task action state) list valid.1)

pub cut_law : CutLaw
cut_law task state cuts lawful list valid = omega (arith, sym (all_open task state cuts lawful.each), open_within task state cuts lawful state list valid)

-- the set of a cut has exactly the numbers below the bound that aren't listed
pub contains-all_but : (bound : ℕ) (lacks : List ℕ) (k : ℕ) → set.contains (all_but bound lacks) k ≡ (nat_lt k bound && not (set.contains (set_of lacks) k))
contains-all_but bound lacks k = contains-set_below (λ j. not (set.contains (set_of lacks) j)) bound k

both_below : (k bound : ℕ) (listed has : Bool) → (has ≡ true → k < bound) → (k < bound → listed ≡ not has) → (nat_lt k bound && not listed) ≡ has
both_below k bound listed has below agree = grind (arith, nat_tests)

-- a set of numbers below the bound is the set of a cut if the cut lists exactly the other numbers
pub all_but-is : (bound : ℕ) (lacks : List ℕ) (among : Numbers) → AllBelow bound among → ((k : ℕ) → k < bound → set.contains (set_of lacks) k ≡ not (set.contains among k)) → all_but bound lacks ≡ among
all_but-is bound lacks among below others =
    same_members (all_but bound lacks) among (λ k. contains-all_but bound lacks k ∙ both_below k bound (set.contains (set_of lacks) k) (set.contains among k) (below k) (others k))
