use Rattle.std.proofs.Common.{◌≡◌, ◌+◌}
use Rattle.bound_cert.specs.Rooms.{all_below}
use Rattle.bound_cert.proofs.scratch.every_atom.Given as goal

abbrev pub invariant-loop-atom : goal.invariant-loop-atom
invariant-loop-atom l = l.all ≡ record { width = l.atoms + 1; members = all_below l.atom }
