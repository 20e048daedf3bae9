use Rattle.std.proofs.Common.{◌≡◌, false, take}
use Rattle.case_kit.specs.Parts.{stands_among}
use Rattle.case_kit.proofs.action.any_speaks_of.Given as goal

abbrev pub invariant-loop-place : goal.invariant-loop-place
invariant-loop-place l = stands_among (take l.place l.cases) l.number ≡ false
