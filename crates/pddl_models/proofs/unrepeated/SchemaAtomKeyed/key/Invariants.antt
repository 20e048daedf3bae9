use Rattle.std.proofs.Common.{◌≡◌, ◌++◌, drop}
use Rattle.pddl_models.specs.Unrepeated.{terms_key, schema_atom_key}
use Rattle.pddl_models.proofs.unrepeated.SchemaAtomKeyed.key.Given as goal

abbrev pub invariant-loop-place : goal.invariant-loop-place
invariant-loop-place l = l.numbers.items ++ terms_key (drop l.place l.self.args) ≡ schema_atom_key l.self
