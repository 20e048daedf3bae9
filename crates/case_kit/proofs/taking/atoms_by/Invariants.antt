use Rattle.std.proofs.Common.{◌≡◌, take}
use Rattle.case_kit.specs.Evaluated.{atoms_where, counts}
use Rattle.case_kit.proofs.taking.atoms_by.Given as goal

abbrev pub invariant-loop-place : goal.invariant-loop-place
invariant-loop-place l = l.atoms ≡ atoms_where (counts l.way l.cube) (take l.place l.cases)
