use Rattle.pair_rules.proofs.TypeLemmas.{objects_more}
use Rattle.pair_rules.proofs.fitting.all_types.Goals as goal

pub loop-object-preserved : goal.loop-object-preserved
loop-object-preserved c =
    objects_more c.args.words.now c.loop-object.object c.loop-object.made c.push.new.self c.in_ok-types_of.field-0 c.loop-object.invariant c.in_ok-types_of.ensures c.in_ok-push.ensures.ok
