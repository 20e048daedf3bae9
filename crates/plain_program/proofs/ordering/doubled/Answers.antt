use Rattle.std.proofs.Common.{◌++◌, ◌∷◌, [], take, sym, ap, ◌∙◌, append_assoc}
use Rattle.mre_base.proofs.Loops.{take_item}
use Rattle.plain_program.specs.Subsets.{all_with}
use Rattle.plain_program.proofs.ordering.doubled.Goals as goal

pub loop-at-preserved : goal.loop-at-preserved
loop-at-preserved c =
    let sets = c.args.sets.now in
    let begin = all_with c.args.place sets in
    let at = c.loop-at.at in
    c.in_ok-push.ensures.ok
    ∙ (λ i. c.loop-at.invariant i ++ c.copy.ensures i ∷ [])
    ∙ append_assoc begin (take at sets) (c.item.result.now ∷ [])
    ∙ ap (λ xs. begin ++ xs) (sym (take_item sets at c.item.result.now c.item.ensures))
