use Rattle.mre_base.proofs.Loops.{map_item}
use Rattle.joint_models.specs.Renaming.{term_by}
use Rattle.joint_models.proofs.renaming.rename_terms.Goals as goal

pub loop-place-preserved : goal.loop-place-preserved
loop-place-preserved c = map_item _ _ _ c.item.ensures (term_by c.args.numbers.now) _ _ _ c.loop-place.invariant c.in_ok-push.ensures.ok c.rename_term.ensures
