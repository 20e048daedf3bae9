use Rattle.std.proofs.Common.{◌≡◌, ◌≢◌, ◌<◌, ℕ, Some, length, sym, ap, ◌∙◌, arith}
use Rattle.std.specs.Prelude.{slice_get, slice_set}
use Rattle.std.proofs.lemmas.List.{length-set}
use Rattle.cow_models.proofs.RowLemmas.{slice_get-set_same, slice_get-set_other}
use Rattle.cow_models.proofs.KeptRows.{more_changed, changed_here, left_here, all_changed}
use Rattle.cow_models.proofs.making.change_actions.Goals.{then-touches+in_ok-actions, else-touches}
use Rattle.cow_models.proofs.making.change_actions.Goals as goal

pub loop-at-preserved : goal.loop-at-preserved
loop-at-preserved c =
    elim c.if-touches.branch [
      | then-touches+in_ok-actions w ↦
          let current = c.loop-at.actions in
          let at = c.loop-at.at in
          let made = w.in_ok-actions.field-0 in
          let written : c.if-touches.actions ≡ slice_set current at made = w.actions-is in
          let within : at < length current = omega (arith, c.loop-at-test.true, c.len-at-end.ensures, c.loop-at.invariant.same_length) in
          let here : slice_get c.if-touches.actions at ≡ Some made = ap (λ xs. slice_get xs at) written ∙ slice_get-set_same current at made within in
          let others : (k : ℕ) → k ≢ at → slice_get c.if-touches.actions k ≡ slice_get current k = λ k apart. ap (λ xs. slice_get xs k) written ∙ slice_get-set_other current at made k apart in
          record {
            same_length = ap length written ∙ length-set current at made ∙ c.loop-at.invariant.same_length;
            before = more_changed c.args.table.now c.args.cube.now c.args.way c.args.place c.args.first c.args.actions.now current c.if-touches.actions at c.loop-at.invariant.before (λ k lt. others k (omega arith))
                (changed_here c.args.table.now c.args.cube.now c.args.way c.args.place c.args.first c.args.actions.now current c.if-touches.actions at c.item.result.now c.item.ensures made here
                (sym c.touches.ensures ∙ w.if-touches.true) (record { is = w.in_ok-actions.ensures.is; in_range = w.in_ok-actions.ensures.in_range }));
            after = λ k le. others k (omega arith) ∙ c.loop-at.invariant.after k (omega arith);
          }
      | else-touches w ↦
          let same : c.if-touches.actions ≡ c.loop-at.actions = w.actions-is in
          record {
            same_length = ap length same ∙ c.loop-at.invariant.same_length;
            before = more_changed c.args.table.now c.args.cube.now c.args.way c.args.place c.args.first c.args.actions.now c.loop-at.actions c.if-touches.actions c.loop-at.at c.loop-at.invariant.before (λ k lt. ap (λ xs. slice_get xs k) same)
                (left_here c.args.table.now c.args.cube.now c.args.way c.args.place c.args.first c.args.actions.now c.loop-at.actions c.if-touches.actions c.loop-at.at c.item.result.now c.item.ensures
                (ap (λ xs. slice_get xs c.loop-at.at) same ∙ c.loop-at.invariant.after c.loop-at.at (omega arith)) (sym c.touches.ensures ∙ w.if-touches.false));
            after = λ k le. ap (λ xs. slice_get xs k) same ∙ c.loop-at.invariant.after k (omega arith);
          }
    ]

pub returns : goal.returns
returns c =
    all_changed c.args.table.now c.args.cube.now c.args.way c.args.place c.args.first c.args.actions.now c.loop-at.actions c.loop-at.at c.loop-at.invariant.same_length (omega (arith, c.loop-at-test.false, c.len-at-end.ensures)) c.loop-at.invariant.before
