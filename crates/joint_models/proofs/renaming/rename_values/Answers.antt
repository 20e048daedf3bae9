use Rattle.std.proofs.Common.{ℕ, List}
use Rattle.mre_base.proofs.Loops.{map_item}
use Rattle.joint_models.specs.Renaming.{value_by}
use Rattle.joint_models.proofs.renaming.rename_values.Goals as goal

pub loop-place-preserved : goal.loop-place-preserved
loop-place-preserved c = map_item _ _ _ c.item.ensures (value_by c.args.numbers.now) _ _ _ c.loop-place.invariant c.in_ok-push.ensures.ok
    (λ i. let made : ℕ × List ℕ × ℕ = (c.number_at.ensures i, c.in_ok-numbers_at.ensures.ok i, c.item.result.now.2) in made)
