use Rattle.std.proofs.Common.{◌+◌, arith}
use Rattle.task_kit.proofs.KeptLemmas.{all_below}
use Rattle.cow_models.proofs.model.CaseModelTaskView.applies.Goals as goal

pub has_all-requires : goal.has_all-requires
has_all-requires c =
    all_below (c.args.self.now.task.atoms + 1) c.args.state.now.width c.action-action.result.now.pre c.as_slice.result.now c.as_slice.ensures c.action-action.ensures.in_range.pre (omega (arith, c.requires.width))
