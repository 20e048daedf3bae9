use Rattle.std.specs.FinSet as set
use Rattle.mre_base.proofs.Loops.{map_item}
use Rattle.plain_program.proofs.ordering.with_each.Goals as goal

pub loop-at-preserved : goal.loop-at-preserved
loop-at-preserved c =
    map_item c.args.sets.now c.loop-at.at c.item.result.now c.item.ensures (λ s. set.insert s c.args.place) c.loop-at.made c.push.new.self c.with.result c.loop-at.invariant c.in_ok-push.ensures.ok c.with.ensures
