use Rattle.std.proofs.Common.{◌≡◌}
use Rattle.task_kit.proofs.JudgeLemmas.{IsWalked}
use Rattle.task_kit.proofs.judging.judge.Given as goal

abbrev pub invariant-loop-place : goal.invariant-loop-place
invariant-loop-place g l =
    record {
      walked : IsWalked (g.T.TaskView.seen l.task) l.plan l.place l.one l.cost;
      two : l.two.width ≡ l.initial.two.width;
    }
