use Rattle.model_kit.specs.Pairs.{names, number_of}
use Rattle.mre_base.proofs.Loops.{map_item}
use Rattle.joint_models.proofs.numbers.numbers_between.Goals as goal

pub loop-place-preserved : goal.loop-place-preserved
loop-place-preserved c =
    map_item c.args.from.now _ _ c.item.ensures (λ s. number_of (names c.args.to.now.entries) s.name) _ _ _ c.loop-place.invariant c.in_ok-push.ensures.ok c.number-number.ensures
