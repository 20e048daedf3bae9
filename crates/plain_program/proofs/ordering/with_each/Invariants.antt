use Rattle.std.proofs.Common.{◌≡◌, take}
use Rattle.plain_program.specs.Subsets.{all_with}
use Rattle.plain_program.proofs.ordering.with_each.Given as goal

abbrev pub invariant-loop-at : goal.invariant-loop-at
invariant-loop-at l = l.made ≡ all_with l.place (take l.at l.sets)
