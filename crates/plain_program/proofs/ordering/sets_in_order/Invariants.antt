use Rattle.std.proofs.Common.{◌≡◌}
use Rattle.plain_program.specs.Subsets.{of_sizes}
use Rattle.plain_program.proofs.ordering.sets_in_order.Given as goal

abbrev pub invariant-loop-size : goal.invariant-loop-size
invariant-loop-size l = l.sets ≡ of_sizes l.all l.size
