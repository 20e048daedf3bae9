use Rattle.std.proofs.Common.{◌≡◌, ◌+◌, take}
use Rattle.task_kit.specs.Tasks.{set_of}
use Rattle.case_kit.specs.Evaluated.{atoms_where, counts}
use Rattle.case_kit.proofs.taking.set_by.Given as goal

abbrev pub invariant-loop-place : goal.invariant-loop-place
invariant-loop-place l =
    record {
      width : l.bits.width ≡ l.atoms + 1;
      members : l.bits.members ≡ set_of (atoms_where (counts l.way l.cube) (take l.place l.cases));
    }
