use Rattle.std.proofs.Common.{◌+◌, ap, arith}
use Rattle.task_kit.proofs.KeptLemmas.{all_below, in_range_at, next_kept}
use Rattle.task_kit.proofs.task.TaskTaskView.next_into.Goals as goal

pub take_all-requires : goal.take_all-requires
take_all-requires c =
    all_below (c.args.self.now.atoms + 1) c.copy_from.new.self.width c.item-action.result.now.del c.as_slice.result.now c.as_slice.ensures
    (in_range_at c.args.self.now.atoms c.args.self.now.start c.args.self.now.goal c.args.self.now.actions c.args.action c.item-action.result.now c.item-action.ensures c.args.self.now.in_range).del (omega (arith, c.requires.width, ap (λ b. b.width) c.copy_from.ensures))

pub put_all-requires : goal.put_all-requires
put_all-requires c =
    all_below c.args.self.now.atoms c.take_all.new.bits.width c.item-action.result.now.add c.as_slice-2.result.now c.as_slice-2.ensures
    (in_range_at c.args.self.now.atoms c.args.self.now.start c.args.self.now.goal c.args.self.now.actions c.args.action c.item-action.result.now c.item-action.ensures c.args.self.now.in_range).add (omega (arith, c.requires.width, ap (λ b. b.width) c.copy_from.ensures, ap (λ b. b.width) c.take_all.ensures))

pub returns : goal.returns
returns c =
    next_kept c.args.self.now.atoms c.args.self.now.start c.args.self.now.goal c.args.self.now.actions c.args.action c.item-action.result.now c.args.state.now c.copy_from.new.self c.take_all.new.bits c.put_all.new.bits _ _
    c.item-action.ensures c.requires.width c.copy_from.ensures c.as_slice.ensures c.take_all.ensures c.as_slice-2.ensures c.put_all.ensures
