use Rattle.std.proofs.Common.{◌+◌, ap, arith}
use Rattle.task_kit.proofs.KeptLemmas.{all_below}
use Rattle.cow_models.proofs.KeptRows.{next_is}
use Rattle.cow_models.proofs.model.CaseModelTaskView.next_into.Goals as goal

pub take_all-requires : goal.take_all-requires
take_all-requires c =
    all_below (c.args.self.now.task.atoms + 1) c.copy_from.new.self.width c.action-action.result.now.del c.as_slice.result.now c.as_slice.ensures
    c.action-action.ensures.in_range.del (omega (arith, c.requires.width, ap (λ b. b.width) c.copy_from.ensures))

pub put_all-requires : goal.put_all-requires
put_all-requires c =
    all_below c.args.self.now.task.atoms c.take_all.new.bits.width c.action-action.result.now.add c.as_slice-2.result.now c.as_slice-2.ensures
    c.action-action.ensures.in_range.add (omega (arith, c.requires.width, ap (λ b. b.width) c.copy_from.ensures, ap (λ b. b.width) c.take_all.ensures))

pub returns : goal.returns
returns c =
    next_is c.args.self.now.task c.args.action c.action-action.result.now c.args.state.now c.copy_from.new.self c.take_all.new.bits c.put_all.new.bits _ _
    c.action-action.ensures.is c.requires.width c.copy_from.ensures c.as_slice.ensures c.take_all.ensures c.as_slice-2.ensures c.put_all.ensures
