use Rattle.std.proofs.Common.{take}
use Rattle.ground_core.specs.Names.{AreFound}
use Rattle.ground_core.proofs.names.NameTable.find_plan.Given as goal

abbrev pub invariant-loop-place : goal.invariant-loop-place
invariant-loop-place l = AreFound l.words l.self.actions.items (take l.place l.plan.steps) l.numbers
