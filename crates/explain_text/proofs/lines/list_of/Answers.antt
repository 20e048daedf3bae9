use Rattle.std.proofs.Common.{◌∙◌, sym}
use Rattle.explain_text.proofs.NumberLemmas.{left_out, put_in}
use Rattle.explain_text.proofs.lines.list_of.Goals as goal
use Rattle.explain_text.proofs.lines.list_of.Goals.{then-has+in_ok-sentence_line+in_ok-push-2, else-has}

pub loop-place-preserved : goal.loop-place-preserved
loop-place-preserved c =
    elim c.if-has.branch [
      | then-has+in_ok-sentence_line+in_ok-push-2 w ↦
          put_in c.args.head.now c.args.words.now c.args.differences.now c.args.chosen.now c.loop-place.place c.loop-place.lines c.if-has.lines _ _
          c.loop-place.invariant (sym c.has.ensures ∙ w.if-has.true) w.item-difference.ensures w.in_ok-sentence_line.ensures.ok (w.lines-is ∙ w.in_ok-push-2.ensures.ok)
      | else-has w ↦
          left_out c.args.head.now c.args.words.now c.args.differences.now c.args.chosen.now c.loop-place.place c.loop-place.lines c.if-has.lines
          c.loop-place.invariant (sym c.has.ensures ∙ w.if-has.false) w.lines-is
    ]
