use Rattle.std.proofs.Common.{take}
use Rattle.task_kit.specs.Tasks.{set_of, IsFirstLack}
use Rattle.cow_models.proofs.atoms.least_missing.Given as goal

abbrev pub invariant-loop-atom : goal.invariant-loop-atom
invariant-loop-atom l = IsFirstLack (set_of (take l.atom-index l.atoms)) l.bits.members l.least
