use Rattle.std.proofs.Common.{arith}
use Rattle.task_kit.proofs.KeptLemmas.{kept_in_range}
use Rattle.task_tests.proofs.making.task_of.Goals as goal

pub invariant_of-result : goal.invariant_of-result
invariant_of-result c =
    record {
      start_width = c.in_ok-start.ensures.0;
      goal_width = c.in_ok-goal.ensures.0;
      in_range = kept_in_range c.args.atoms c.in_ok-start.start c.in_ok-goal.goal c.in_ok-actions.actions c.requires.atoms (omega (arith, c.requires.few, c.in_ok-actions.ensures.count)) c.in_ok-start.ensures.1 c.in_ok-goal.ensures.1 c.in_ok-actions.ensures.each;
    }
