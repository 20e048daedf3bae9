use Rattle.pddl_names.proofs.ArityLemmas.{base_put}
use Rattle.pddl_names.proofs.arities.Arities.with_base.Goals as goal

pub loop-place-preserved : goal.loop-place-preserved
loop-place-preserved c =
    base_put c.args.base.now c.args.self c.loop-place.place c.item-signature.result.now c.loop-place.made c.put.new.self c.len.result
    c.loop-place-test.true c.item-signature.ensures c.loop-place.invariant c.len.ensures c.in_ok-put.ensures.ok
