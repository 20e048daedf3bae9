use Rattle.std.proofs.Common.{ap}
use Rattle.case_kit.proofs.MadeLemmas.{task_fits}
use Rattle.case_kit.proofs.table.CaseTable.task_by.Goals as goal

pub invariant_of-result : goal.invariant_of-result
invariant_of-result c =
    record {
      start_width = ap (λ b. b.width) c.in_ok-start_by.ensures;
      goal_width = ap (λ b. b.width) c.in_ok-goal_by.ensures;
      in_range = task_fits c.args.self.now c.args.cube.now c.args.way c.in_ok-start_by.field-0 c.in_ok-goal_by.field-0 c.in_ok-actions_by.field-0 c.in_ok-start_by.ensures c.in_ok-goal_by.ensures c.in_ok-actions_by.ensures.is
          c.in_ok-actions_by.ensures.in_range;
    }
