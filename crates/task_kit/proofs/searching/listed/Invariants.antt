use Rattle.std.proofs.Common.{◌≡◌, take}
use Rattle.task_kit.proofs.searching.listed.Given as goal

abbrev pub invariant-loop-item : goal.invariant-loop-item
invariant-loop-item l = l.list ≡ take l.item-index l.from.items
