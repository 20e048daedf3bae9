use Rattle.std.proofs.Common.{sym, ◌∙◌, true, false}
use Rattle.std.proofs.lemmas.List.{append-nil}
use Rattle.pair_rules.proofs.TypeLemmas.{object_more}
use Rattle.pair_rules.proofs.fitting.objects_of.Goals.{then-contains+in_ok-push, else-contains}
use Rattle.pair_rules.proofs.fitting.objects_of.Goals as goal

pub loop-object-preserved : goal.loop-object-preserved
loop-object-preserved c =
    elim c.if-contains.branch [
      | then-contains+in_ok-push w ↦
          w.made-is ∙ w.in_ok-push.ensures.ok ∙ object_more c.args.sets.now c.args.kind c.loop-object.object c.item.result.now c.item.ensures true (sym c.contains.ensures ∙ w.if-contains.true) c.loop-object.made c.loop-object.invariant
      | else-contains w ↦
          w.made-is ∙ sym (append-nil c.loop-object.made) ∙ object_more c.args.sets.now c.args.kind c.loop-object.object c.item.result.now c.item.ensures false (sym c.contains.ensures ∙ w.if-contains.false) c.loop-object.made c.loop-object.invariant
    ]
