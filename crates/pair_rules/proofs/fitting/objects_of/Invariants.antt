use Rattle.std.proofs.Common.{◌≡◌, filter}
use Rattle.std.specs.List.{range_with_len}
use Rattle.pair_rules.specs.Fitting.{has_type}
use Rattle.pair_rules.proofs.fitting.objects_of.Given as goal

abbrev pub invariant-loop-object : goal.invariant-loop-object
invariant-loop-object l = l.made ≡ filter (has_type l.sets l.kind) (range_with_len 0 l.object)
