use Rattle.std.proofs.Common.{not, sym, ap, ◌∙◌, arith}
use Rattle.std.specs.FinSet as set
use Rattle.task_kit.specs.Tasks.{set_of}
use Rattle.task_kit.proofs.KeptLemmas.{all_below, in_range_at, action_kept}
use Rattle.task_kit.proofs.task.TaskTaskView.adds_outside.Goals as goal

pub has_all-requires : goal.has_all-requires
has_all-requires c =
    all_below c.args.self.now.atoms c.args.among.now.width c.item-action.result.now.add c.as_slice.result.now c.as_slice.ensures
    (in_range_at c.args.self.now.atoms c.args.self.now.start c.args.self.now.goal c.args.self.now.actions c.args.action c.item-action.result.now c.item-action.ensures c.args.self.now.in_range).add (omega (arith, c.requires.width))

pub returns : goal.returns
returns c =
    ap not (c.has_all.ensures ∙ ap (λ xs. set.is_subset (set_of xs) c.args.among.now.members) c.as_slice.ensures)
    ∙ sym (ap (λ a. not (set.is_subset a.add c.args.among.now.members)) (action_kept c.args.self.now.atoms c.args.self.now.start c.args.self.now.goal c.args.self.now.actions c.args.action c.item-action.result.now c.item-action.ensures))
