use Rattle.std.proofs.Common.{ℕ, ◌≡◌, ◌+◌, ◌*◌, ◌^◌, ◌≤◌, take}
use Rattle.task_kit.specs.Cuts.{weights}
use Rattle.task_kit.specs.Kept.{cuts_meaning}
use Rattle.bound_cert.proofs.pruning.is_enough.Given as goal

abbrev pub invariant-loop-place : goal.invariant-loop-place
invariant-loop-place l =
    record {
      sum : (atoms : ℕ) → l.sum ≡ l.number + weights (cuts_meaning atoms (take l.place l.cuts));
      small : l.sum ≤ 2 ^ 64 * (l.place + 1);
    }
