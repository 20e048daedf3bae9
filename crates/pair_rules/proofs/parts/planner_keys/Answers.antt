use Rattle.std.proofs.Common.{ap}
use Rattle.pair_rules.specs.Made.{key_of}
use Rattle.mre_base.proofs.Loops.{map_item}
use Rattle.pair_rules.proofs.parts.planner_keys.Goals as goal

pub loop-place-preserved : goal.loop-place-preserved
loop-place-preserved c =
    map_item c.args.values.now c.loop-place.place c.item.result.now c.item.ensures key_of c.loop-place.made c.push.new.self _ c.loop-place.invariant c.in_ok-push.ensures.ok (ap (λ objects. (c.item.result.now.0, objects)) c.in_ok-copy.ensures.ok)
