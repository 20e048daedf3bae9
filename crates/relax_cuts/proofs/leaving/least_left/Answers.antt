use Rattle.std.proofs.Common.{Some, sym, ap, ◌∙◌, arith}
use Rattle.std.proofs.lemmas.List.{get_or_read}
use Rattle.relax_cuts.proofs.LeaveLemmas.{weigh_same, weigh_more}
use Rattle.relax_cuts.proofs.leaving.least_left.Goals.{then-is_counted, else-is_counted}
use Rattle.relax_cuts.proofs.leaving.least_left.Goals as goal

pub loop-action-preserved : goal.loop-action-preserved
loop-action-preserved g c =
    let task = g.T.TaskView.seen c.args.task.now in
    let left = c.args.left.now.items in
    let among = c.args.among.now.members in
    elim c.if-is_counted.branch [
      | then-is_counted w ↦
          weigh_more task left among c.loop-action.action c.loop-action.least _ _ (w.least-is ∙ ap Some w.lesser.ensures) (sym c.is_counted.ensures ∙ w.if-is_counted.true)
          (get_or_read left _ _ (omega (arith, c.requires.sized, c.loop-action-test.true, c.actions-action-end.ensures)) w.index.ensures 0) c.loop-action.invariant
      | else-is_counted w ↦ weigh_same task left among c.loop-action.action c.loop-action.least _ w.least-is (sym c.is_counted.ensures ∙ w.if-is_counted.false) c.loop-action.invariant
    ]
