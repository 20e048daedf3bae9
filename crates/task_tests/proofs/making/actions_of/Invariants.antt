use Rattle.std.proofs.Common.{◌≡◌, All, length}
use Rattle.task_kit.specs.Tasks.{IsAction}
use Rattle.task_kit.specs.Kept.{action_meaning}
use Rattle.task_tests.proofs.making.actions_of.Given as goal

abbrev pub invariant-loop-given : goal.invariant-loop-given
invariant-loop-given l =
    record {
      each : All (λ action. IsAction l.atoms (action_meaning action)) l.actions;
      count : length l.actions ≡ l.given-index;
    }
