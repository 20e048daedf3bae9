use Rattle.std.proofs.Common.{◌++◌, ◌∷◌, [], ap, ◌∙◌, arith}
use Rattle.plain_program.proofs.SetLists.{size_more, size_other}
use Rattle.plain_program.proofs.ordering.push_of_size.Goals as goal
use Rattle.plain_program.proofs.ordering.push_of_size.Goals.{then-count-size+in_ok-push, else-count-size}

pub loop-at-preserved : goal.loop-at-preserved
loop-at-preserved c =
    elim c.if-count-size.branch [
      | then-count-size+in_ok-push w ↦
          size_more c.args.size c.args.all.now c.loop-at.at c.item-set.result.now c.item-set.ensures c.args.sets.now c.loop-at.sets c.if-count-size.sets c.loop-at.invariant (grind (arith, w.if-count-size.true, c.count.ensures.count))
          (w.sets-is ∙ w.in_ok-push.ensures.ok ∙ ap (λ s. c.loop-at.sets ++ s ∷ []) w.copy.ensures)
      | else-count-size w ↦
          size_other c.args.size c.args.all.now c.loop-at.at c.item-set.result.now c.item-set.ensures c.args.sets.now c.loop-at.sets c.if-count-size.sets c.loop-at.invariant (grind (arith, w.if-count-size.false, c.count.ensures.count)) w.sets-is
    ]
