use Rattle.std.proofs.Common.{◌≡◌, ◌++◌, take}
use Rattle.std.specs.Prelude.{filter, nat_eq}
use Rattle.mre_base.specs.Before.{count_of}
use Rattle.plain_program.proofs.ordering.push_of_size.Given as goal

abbrev pub invariant-loop-at : goal.invariant-loop-at
invariant-loop-at l = l.sets ≡ l.initial.sets ++ filter (λ s. nat_eq (count_of s) l.size) (take l.at l.all)
