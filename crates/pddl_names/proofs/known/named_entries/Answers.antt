use Rattle.mre_base.proofs.Loops.{map_item}
use Rattle.pddl_names.specs.Texts.{entry_declared}
use Rattle.pddl_names.proofs.known.named_entries.Goals as goal

pub loop-place-preserved : goal.loop-place-preserved
loop-place-preserved c =
    map_item c.args.entries.now c.loop-place.place c.item-entry.result.now c.item-entry.ensures (entry_declared c.args.types.now) c.loop-place.made c.push.new.self _ c.loop-place.invariant
    c.in_ok-push.ensures.ok (λ i. (c.in_ok-copy.ensures.ok i, c.in_ok-type_name.ensures.ok i))
