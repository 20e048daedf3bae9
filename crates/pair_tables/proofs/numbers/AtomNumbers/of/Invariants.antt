use Rattle.std.proofs.Common.{◌≡◌, drop}
use Rattle.std.specs.BTreeMap.{get}
use Rattle.model_kit.specs.declared.atom.GroundAtom.{GroundAtom}
use Rattle.model_kit.specs.Judging.{atom_cmp}
use Rattle.pair_tables.proofs.NumberLemmas.{place_from}
use Rattle.pair_tables.proofs.numbers.AtomNumbers.of.Given as goal

abbrev pub invariant-loop-place : goal.invariant-loop-place
invariant-loop-place l = (atom : GroundAtom) → get atom_cmp l.places atom ≡ place_from l.place (drop l.place l.atoms) atom
