use Rattle.mre_base.proofs.Loops.{map_item}
use Rattle.pddl_names.specs.Texts.{type_name}
use Rattle.pddl_names.proofs.known.type_names.Goals as goal

pub loop-place-preserved : goal.loop-place-preserved
loop-place-preserved c =
    map_item c.args.numbers.now c.loop-place.place c.item.result.now c.item.ensures (type_name c.args.types.now) c.loop-place.made c.push.new.self _ c.loop-place.invariant
    c.in_ok-push.ensures.ok c.in_ok-type_name.ensures.ok
