use Rattle.mre_base.proofs.Loops.{map_item}
use Rattle.feature_diff.proofs.told.forms.Goals as goal

pub loop-place-preserved : goal.loop-place-preserved
loop-place-preserved g c =
    map_item c.args.items.now c.loop-place.place c.item.result.now c.item.ensures (g.T.Told.form c.args.words.now) c.loop-place.forms c.push.new.self c.in_ok-print.field-0
    c.loop-place.invariant c.in_ok-push.ensures.ok c.in_ok-print.ensures.ok
