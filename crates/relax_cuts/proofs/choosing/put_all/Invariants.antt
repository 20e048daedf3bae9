use Rattle.std.proofs.Common.{◌≡◌}
use Rattle.relax_cuts.proofs.choosing.put_all.Given as goal

abbrev pub invariant-loop-atom : goal.invariant-loop-atom
invariant-loop-atom l = l.bits.width ≡ l.initial.bits.width
