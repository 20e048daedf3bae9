use Rattle.std.proofs.Common.{◌≡◌}
use Rattle.plain_program.specs.Subsets.{sets_from}
use Rattle.plain_program.proofs.ordering.all_sets.Given as goal

abbrev pub invariant-loop-done : goal.invariant-loop-done
invariant-loop-done l = l.sets ≡ sets_from l.bound l.done
