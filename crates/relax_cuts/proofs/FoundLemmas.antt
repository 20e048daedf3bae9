-- The cuts that are found, round by round.
use Rattle.std.proofs.Common.{◌≡◌, ℕ, ◌+◌, ◌≤◌, ◌<◌, true, cond, List, [], ◌∷◌, ◌++◌, length, sym, ap, ◌∙◌, arith, subst, slice_index, None, All}
use Rattle.std.proofs.lemmas.List.Elements.{All-nil}
use Rattle.std.specs.FinSet as set
use Rattle.std.specs.List.Sorted.{IsStrictlyIncreasing}
use Rattle.task_kit.specs.declared.cut.Cut.{Cut}
use Rattle.task_kit.specs.Cuts.{most, CutMeaning, IsCutOf}
use Rattle.task_kit.specs.Kept.{all_but, cut_meaning, cuts_meaning}
use Rattle.task_kit.specs.Tasks.{Numbers, TaskMeaning, IsTask, price}
use Rattle.std.proofs.lemmas.Option.{none-some}
use Rattle.task_kit.proofs.PlaceLemmas.{length_pushed}
use Rattle.relax_cuts.specs.Closing.{Spreads}
use Rattle.relax_cuts.specs.FreeClosure.{AreForced}
use Rattle.relax_cuts.specs.Leaving.{is_counted, Leave, IsLeastLeft, IsWeight, IsCutSet, IsFormed, AreCuts, AreFound}
use Rattle.relax_cuts.proofs.LeaveLemmas.{leave_none, leave_more, within_of, uses_up, in_range, meant, formed_more, each_more, used_more, lean_last, within_last, lean_of, counts_none, forced_by_one, forced_by_goal}

module _ (task : TaskMeaning) (state : Numbers) where
  -- before the first round
  pub cuts_none : (cuts : List Cut) → cuts ≡ [] → AreCuts task state cuts
  cuts_none cuts e =
      subst (AreCuts task state) (sym e) (record { formed = All-nil (IsFormed task.atoms); each = All-nil (IsCutOf task state); used = λ place cut at. absurd (none-some cut at) })

  pub leave_all : (cuts : List Cut) (left : List ℕ) → cuts ≡ [] → length left ≡ length task.actions → ((action : ℕ) → action < length task.actions → slice_index left action ≡ price task action) → Leave task (cuts_meaning task.atoms cuts) left
  leave_all cuts left e sized each = subst (λ xs. Leave task (cuts_meaning task.atoms xs) left) (sym e) (leave_none task left sized each)

  module _ (cuts : List Cut) (left : List ℕ) (so_far : AreCuts task state cuts) (leave : Leave task (cuts_meaning task.atoms cuts) left) where
    found_by : AreForced task state (cuts_meaning task.atoms cuts) → AreFound task state cuts
    found_by forced =
        record {
          lawful = record { each = so_far.each; within = within_of task (cuts_meaning task.atoms cuts) left leave };
          forced = forced;
          formed = so_far.formed;
          lean = lean_of task (cuts_meaning task.atoms cuts) so_far.used;
        }

    -- the closure includes the goal atoms
    pub found_goal : (closure : Numbers) → Spreads task left 0 state closure → set.is_subset task.goal closure ≡ true → AreFound task state cuts
    found_goal closure spreads reached = found_by (forced_by_goal task state closure cuts left so_far.formed leave spreads reached)

    -- some cut was found
    pub found_some : 0 < length cuts → AreFound task state cuts
    found_some some = found_by (forced_by_one task state cuts so_far.formed some)

    module _ (among : Numbers) (cut_set : IsCutSet task state among) (lacks : List ℕ) (e : all_but task.atoms lacks ≡ among) (up : IsStrictlyIncreasing lacks) (below : All (λ atom. atom < task.atoms) lacks) where
      is_cut : (weight : ℕ) → weight ≤ most → IsCutOf task state (cut_meaning task.atoms (record { weight = weight; lacks = lacks }))
      is_cut weight le =
          record {
            has_state = ap (set.is_subset state) e ∙ cut_set.has_state;
            lacks_goal = ap (set.is_subset task.goal) e ∙ cut_set.lacks_goal;
            in_range = le;
          }

      is_formed : (weight : ℕ) → 0 < weight → IsFormed task.atoms (record { weight = weight; lacks = lacks })
      is_formed weight lt = record { weight = lt; ascending = up; below = below }

      -- a last cut that counts no action
      pub found_none : (new : List Cut) → IsWeight task (length task.actions) left among None → new ≡ cuts ++ (record { weight = most; lacks = lacks }) ∷ [] → AreFound task state new
      found_none new weigh is =
          let cut : Cut = record { weight = most; lacks = lacks } in
          let m : CutMeaning = cut_meaning task.atoms cut in
          let none = counts_none task left m (subst (λ s. IsWeight task (length task.actions) left s None) (sym e) weigh) in
          let formed = formed_more task state cuts cut new is so_far.formed (is_formed most (omega arith)) in
          record {
            lawful = record {
              each = each_more task state cuts cut new is so_far.each (is_cut most (omega arith));
              within = within_last task state cuts cut new is none (within_of task (cuts_meaning task.atoms cuts) left leave);
            };
            forced = forced_by_one task state new formed (above _ _ (ap length is ∙ length_pushed cuts cut));
            formed = formed;
            lean = lean_last task state cuts cut new is so_far.used none;
          }
        where
          above : (n m : ℕ) → n ≡ m + 1 → 0 < n
          above n m same = omega arith

      module _ (weight : ℕ) (least : IsLeastLeft task (length task.actions) left among weight) (new : List Cut) (is : new ≡ cuts ++ (record { weight = weight; lacks = lacks }) ∷ []) where
        abbrev cut : Cut
        cut = record { weight = weight; lacks = lacks }

        least_here : IsLeastLeft task (length task.actions) left (all_but task.atoms lacks) weight
        least_here = subst (λ s. IsLeastLeft task (length task.actions) left s weight) (sym e) least

        -- one more cut
        pub cuts_more : IsTask task → 0 < weight → AreCuts task state new
        cuts_more is_task lt =
            record {
              formed = formed_more task state cuts cut new is so_far.formed (is_formed weight lt);
              each = each_more task state cuts cut new is so_far.each (is_cut weight (in_range task (cuts_meaning task.atoms cuts) left leave (cut_meaning task.atoms cut) least_here is_task));
              used = used_more task state cuts cut new is so_far.used (uses_up task (cuts_meaning task.atoms cuts) left leave (cut_meaning task.atoms cut) least_here);
            }

        pub leave_less : (rest : List ℕ) → length rest ≡ length left
            → ((action : ℕ) → action < length task.actions → slice_index rest action + cond (is_counted task action among) weight 0 ≡ slice_index left action)
            → Leave task (cuts_meaning task.atoms new) rest
        leave_less rest sized sums =
            subst (λ ms. Leave task ms rest) (sym (meant task state cuts cut new is))
            (leave_more task (cuts_meaning task.atoms cuts) (cut_meaning task.atoms cut) left rest leave sized (λ action lt.
            ap (λ s. slice_index rest action + cond (is_counted task action s) weight 0) e ∙ sums action lt))

        pub one_longer : length new ≡ length cuts + 1
        one_longer = ap length is ∙ length_pushed cuts cut
