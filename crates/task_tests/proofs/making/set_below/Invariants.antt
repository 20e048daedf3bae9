use Rattle.std.proofs.Common.{◌≡◌}
use Rattle.task_kit.specs.Tasks.{AllBelow}
use Rattle.task_tests.proofs.making.set_below.Given as goal

abbrev pub invariant-loop-number : goal.invariant-loop-number
invariant-loop-number l =
    record {
      width : l.bits.width ≡ l.width;
      below : AllBelow l.bound l.bits.members;
    }
