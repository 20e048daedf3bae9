-- The sets of cuts, and the charges of cuts.
use Rattle.std.proofs.Common.{◌≡◌, ℕ, ◌+◌, ◌≤◌, ◌<◌, Bool, true, false, ◌&&◌, not, cond, nat_lt, List, [], ◌∷◌, ◌++◌, length, take, refl, sym, ap, ◌∙◌, arith, subst, inl, inr, add-one, slice_index, unwrap_or, Some, is_some, slice_get}
use Rattle.std.proofs.lemmas.Bool.{cases_lt, and_parts, false≢true, false_from_ne_true}
use Rattle.std.proofs.lemmas.List.{map-append}
use Rattle.std.proofs.lemmas.Option.{slice_get_past}
use Rattle.std.specs.Cmp.{nat_cmp_total}
use Rattle.std.specs.FinSet as set
use Rattle.mre_base.specs.Sets.{BitSet, set_below}
use Rattle.mre_base.specs.SameSets.{same_members}
use Rattle.mre_base.proofs.SetsBelow.{contains-set_below}
use Rattle.task_kit.specs.Tasks.{Numbers, ActionMeaning, TaskMeaning, set_of, no_action, as_bits, price, applies}
use Rattle.task_kit.specs.Cuts.{CutMeaning, counts, weight_of, weights}
use Rattle.task_kit.specs.Kept.{all_but, cut_meaning, cuts_meaning}
use Rattle.task_kit.specs.declared.cut.Cut.{Cut}
use Rattle.mre_base.proofs.Tests.{and_true}
use Rattle.task_kit.proofs.CutLemmas.{contains-all_but}
use Rattle.task_kit.proofs.CutWeights.{weight_of-push, weights-push, not_counted}
use Rattle.bound_cert.specs.Rooms.{all_below, charge_by, AreCharged}
use Rattle.mre_base.proofs.Loops.{take_item}

-- ---- sets of atoms
pub none_below : all_below 0 ≡ set.empty
unfolding set_below
none_below = refl

pub one_more_below : (n : ℕ) → all_below (n + 1) ≡ set.insert (all_below n) n
unfolding set_below
one_more_below n = rw add-one refl

-- the set of a cut is all atoms without those that it lacks
pub all_but-difference : (bound : ℕ) (lacks : List ℕ) → set.difference (all_below bound) (set_of lacks) ≡ all_but bound lacks
all_but-difference bound lacks =
    same_members _ _ (λ k.
    set.contains-difference nat_cmp_total (all_below bound) (set_of lacks) k
    ∙ ap (λ b. b && not (set.contains (set_of lacks) k)) (contains-set_below (λ _. true) bound k ∙ and_true (nat_lt k bound))
    ∙ sym (contains-all_but bound lacks k))

-- the set that the code makes is the set of the cut
pub made_set : (task : TaskMeaning) (lacks listed : List ℕ) (all among : BitSet) → all ≡ as_bits task (all_below task.atoms) → listed ≡ lacks
    → among ≡ record all { members = set.difference all.members (set_of listed) } → among.members ≡ all_but task.atoms lacks
made_set task lacks listed all among is same made =
    ap (λ b. b.members) made ∙ (λ i. set.difference (is i).members (set_of (same i))) ∙ all_but-difference task.atoms lacks

-- ---- sums of weights
-- the cuts up to a place, and the cut there
pub next_cuts : (atoms : ℕ) (cuts : List Cut) (i : ℕ) (cut : Cut) → slice_get cuts i ≡ Some cut → cuts_meaning atoms (take (i + 1) cuts) ≡ cuts_meaning atoms (take i cuts) ++ cut_meaning atoms cut ∷ []
next_cuts atoms cuts i cut at = ap (cuts_meaning atoms) (take_item cuts i cut at) ∙ map-append (cut_meaning atoms) (take i cuts) (cut ∷ [])

pub next_weights : (atoms : ℕ) (cuts : List Cut) (i : ℕ) (cut : Cut) → slice_get cuts i ≡ Some cut → weights (cuts_meaning atoms (take (i + 1) cuts)) ≡ weights (cuts_meaning atoms (take i cuts)) + cut.weight
next_weights atoms cuts i cut at = ap weights (next_cuts atoms cuts i cut at) ∙ weights-push (cuts_meaning atoms (take i cuts)) (cut_meaning atoms cut)

-- ---- charges
module _ (task : TaskMeaning) (before : List CutMeaning) (cut : CutMeaning) (old : List ℕ) (charged : AreCharged task before old) where
  summed : (action : ℕ) → action < length task.actions → slice_index old action + charge_by task cut action ≡ weight_of (counts task action) (before ++ cut ∷ [])
  summed action lt = ap (λ n. n + charge_by task cut action) (charged.noted action lt) ∙ sym (weight_of-push (counts task action) before cut)

  pub charged_more : (new : List ℕ)
      → ((action : ℕ) → action < length task.actions → slice_index new action ≡ slice_index old action + charge_by task cut action)
      → ((action : ℕ) → action < length task.actions → slice_index new action ≤ price task action)
      → AreCharged task (before ++ cut ∷ []) new
  charged_more new sums within = record { noted = noted; within = each } where
    noted : (action : ℕ) → action < length task.actions → slice_index new action ≡ weight_of (counts task action) (before ++ cut ∷ [])
    noted action lt = sums action lt ∙ summed action lt

    each : (action : ℕ) → weight_of (counts task action) (before ++ cut ∷ []) ≤ price task action
    each action =
        elim (cases_lt action (length task.actions)) [
          | inl lt ↦ subst (λ n. n ≤ price task action) (noted action lt) (within action lt)
          | inr past ↦ omega (arith, not_counted task action (before ++ cut ∷ []) past)
        ]

  pub overcharged : (action : ℕ) → action < length task.actions → price task action < slice_index old action + charge_by task cut action → price task action < weight_of (counts task action) (before ++ cut ∷ [])
  overcharged action lt over = subst (λ n. price task action < n) (summed action lt) over

  -- the same for the set that the code made
  module _ (among : Numbers) (e : among ≡ cut.among) where
    same_cut : ◌≡◌ {A = CutMeaning} (record { weight = cut.weight; among = among }) cut
    same_cut = λ i. record { weight = cut.weight; among = e i }

    pub charged_more_at : (new : List ℕ)
        → ((action : ℕ) → action < length task.actions → slice_index new action ≡ slice_index old action + charge_by task (record { weight = cut.weight; among = among }) action)
        → ((action : ℕ) → action < length task.actions → slice_index new action ≤ price task action)
        → AreCharged task (before ++ cut ∷ []) new
    charged_more_at new sums within = charged_more new (λ action lt. sums action lt ∙ ap (λ m. slice_index old action + charge_by task m action) same_cut) within

    pub overcharged_at : (action : ℕ) → action < length task.actions → price task action < slice_index old action + charge_by task (record { weight = cut.weight; among = among }) action
        → price task action < weight_of (counts task action) (before ++ cut ∷ [])
    overcharged_at action lt over = overcharged action lt (subst (λ m. price task action < slice_index old action + charge_by task m action) same_cut over)
