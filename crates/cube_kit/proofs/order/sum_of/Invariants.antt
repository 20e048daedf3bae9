use Rattle.std.proofs.Common.{◌≡◌, ◌+◌, ◌-◌, ◌*◌, ◌≤◌, length}
use Rattle.std.specs.FinSet as set
use Rattle.mre_base.specs.Before.{numbers, weight}
use Rattle.cube_kit.proofs.WalkLemmas.{weight_from}
use Rattle.cube_kit.proofs.order.sum_of.Given as goal

abbrev pub invariant-loop-place : goal.invariant-loop-place
invariant-loop-place l =
    record {
      whole : l.sum + weight_from l.weights (set.contains l.of) l.place (257 - l.place) ≡ weight l.weights (numbers (length l.weights) l.of);
      low : l.sum ≤ l.place * 1000000;
    }
