use Rattle.std.proofs.Common.{arith}
use Rattle.task_kit.proofs.KeptLemmas.{all_below}
use Rattle.cow_models.proofs.model.CaseModelTaskView.outside.Goals as goal

pub least_missing-requires : goal.least_missing-requires
least_missing-requires c =
    all_below c.args.self.now.task.atoms c.args.among.now.width c.action-action.result.now.add c.as_slice.result.now c.as_slice.ensures c.action-action.ensures.in_range.add (omega (arith, c.requires.width))
