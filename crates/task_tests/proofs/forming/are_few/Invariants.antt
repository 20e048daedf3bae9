use Rattle.std.proofs.Common.{ℕ, ◌≡◌, ◌^◌, ◌<◌, length, take}
use Rattle.bound_cert.specs.Lines.{lines}
use Rattle.task_tests.proofs.forming.are_few.Given as goal

abbrev pub invariant-loop-place : goal.invariant-loop-place
invariant-loop-place l =
    record {
      counted : (atoms : ℕ) → length (lines atoms (take l.place l.states)) ≡ l.count;
      few : l.count < 2 ^ 31;
    }
