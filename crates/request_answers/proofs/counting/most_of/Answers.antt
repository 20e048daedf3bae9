use Rattle.std.proofs.Common.{◌∙◌, ap, max}
use Rattle.request_answers.proofs.MostLemmas.{most_more}
use Rattle.request_answers.proofs.counting.most_of.Goals as goal

pub loop-place-preserved : goal.loop-place-preserved
loop-place-preserved c =
    most_more c.args.signatures.now c.loop-place.place c.item.result.now c.loop-place.most c.larger-most.result c.item.ensures c.loop-place.invariant
    (c.larger-most.ensures ∙ ap (max c.loop-place.most) c.len.ensures)
