-- The numbers of atoms, looked up.
use Rattle.std.specs.Prelude.{ℕ, ◌≡◌, List, unwrap_or}
use Rattle.std.specs.BTreeMap.{get}
use Rattle.model_kit.specs.declared.atom.GroundAtom.{GroundAtom}
use Rattle.model_kit.specs.Judging.{atom_cmp}
use Rattle.named_tables.specs.Tables.{number_in}
use Rattle.pair_tables.specs.declared.numbers.AtomNumbers.{AtomNumbers}

-- the number of an atom by the map, which is that of all atoms where it isn't there
abbrev pub number_by : AtomNumbers → GroundAtom → ℕ
number_by numbers atom = unwrap_or (get atom_cmp numbers.places atom) numbers.count

-- the numbers are those of the atoms in the list
abbrev pub AreNumbers : List GroundAtom → AtomNumbers → Type 0
AreNumbers atoms numbers = (atom : GroundAtom) → number_by numbers atom ≡ number_in atoms atom
