use Rattle.std.proofs.Common.{◌+◌, ◌-◌}
use Rattle.std.specs.FinSet as set
use Rattle.mre_base.specs.Before.{numbers, is_earlier_list}
use Rattle.cube_kit.proofs.WalkLemmas.{IsUndecided}
use Rattle.cube_kit.proofs.order.is_earlier.Given as goal

abbrev pub invariant-loop-place : goal.invariant-loop-place
invariant-loop-place l =
    IsUndecided (set.contains l.one) (set.contains l.two) l.place (l.d + 1 - l.place) (is_earlier_list (numbers l.d l.one) (numbers l.d l.two))
