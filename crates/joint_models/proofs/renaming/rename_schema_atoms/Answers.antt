use Rattle.model_kit.specs.declared.atom.SchemaAtom.{SchemaAtom}
use Rattle.mre_base.proofs.Loops.{map_item}
use Rattle.joint_models.specs.Renaming.{schema_atom_by}
use Rattle.joint_models.proofs.renaming.rename_schema_atoms.Goals as goal

pub loop-place-preserved : goal.loop-place-preserved
loop-place-preserved c = map_item _ _ _ c.item-atom.ensures (schema_atom_by c.args.numbers.now) _ _ _ c.loop-place.invariant c.in_ok-push.ensures.ok
    (λ i. let made : SchemaAtom = record { predicate = c.number_at.ensures i; args = c.in_ok-rename_terms.ensures.ok i } in made)
