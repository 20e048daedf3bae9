use Rattle.std.proofs.Common.{◌≡◌, take}
use Rattle.std.specs.FinSet as set
use Rattle.task_kit.specs.Tasks.{set_of}
use Rattle.cow_models.proofs.atoms.put_all.Given as goal

abbrev pub invariant-loop-atom : goal.invariant-loop-atom
invariant-loop-atom l =
    l.bits ≡ record { width = l.initial.bits.width; members = set.union l.initial.bits.members (set_of (take l.atom-index l.atoms)) }
