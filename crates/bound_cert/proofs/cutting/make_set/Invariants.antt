use Rattle.std.proofs.Common.{◌≡◌, take}
use Rattle.std.specs.FinSet as set
use Rattle.task_kit.specs.Tasks.{set_of}
use Rattle.bound_cert.proofs.cutting.make_set.Given as goal

abbrev pub invariant-loop-atom : goal.invariant-loop-atom
invariant-loop-atom l = l.among ≡ record { width = l.all.width; members = set.difference l.all.members (set_of (take l.atom-index l.lacks)) }
