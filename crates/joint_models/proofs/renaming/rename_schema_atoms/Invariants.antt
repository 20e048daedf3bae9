use Rattle.std.proofs.Common.{◌≡◌, take, map}
use Rattle.joint_models.specs.Renaming.{schema_atom_by}
use Rattle.joint_models.proofs.renaming.rename_schema_atoms.Given as goal

abbrev pub invariant-loop-place : goal.invariant-loop-place
invariant-loop-place l = l.made ≡ map (schema_atom_by l.numbers) (take l.place l.atoms)
