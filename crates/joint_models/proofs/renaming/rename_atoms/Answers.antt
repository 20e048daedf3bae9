use Rattle.model_kit.specs.declared.atom.GroundAtom.{GroundAtom}
use Rattle.mre_base.proofs.Loops.{map_item}
use Rattle.joint_models.specs.Renaming.{atom_by}
use Rattle.joint_models.proofs.renaming.rename_atoms.Goals as goal

pub loop-place-preserved : goal.loop-place-preserved
loop-place-preserved c = map_item _ _ _ c.item-atom.ensures (atom_by c.args.numbers.now) _ _ _ c.loop-place.invariant c.in_ok-push.ensures.ok
    (λ i. let made : GroundAtom = record { predicate = c.number_at.ensures i; objects = c.in_ok-numbers_at.ensures.ok i } in made)
