use Rattle.std.proofs.Common.{◌+◌, arith}
use Rattle.task_kit.proofs.KeptLemmas.{all_below}
use Rattle.cow_models.proofs.model.CaseModelTaskView.missing.Goals as goal

pub least_missing-requires : goal.least_missing-requires
least_missing-requires c =
    all_below (c.args.self.now.task.atoms + 1) c.args.state.now.width c.action-action.result.now.pre c.as_slice.result.now c.as_slice.ensures c.action-action.ensures.in_range.pre (omega (arith, c.requires.width))
