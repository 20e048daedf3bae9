use Rattle.std.proofs.Common.{sym, ap, ◌∙◌, subst, arith}
use Rattle.task_kit.specs.Tasks.{set_of, IsFirstLack}
use Rattle.task_kit.proofs.KeptLemmas.{all_below, in_range_at, action_kept}
use Rattle.task_kit.proofs.task.TaskTaskView.outside.Goals as goal

pub least_missing-requires : goal.least_missing-requires
least_missing-requires c =
    all_below c.args.self.now.atoms c.args.among.now.width c.item-action.result.now.add c.as_slice.result.now c.as_slice.ensures
    (in_range_at c.args.self.now.atoms c.args.self.now.start c.args.self.now.goal c.args.self.now.actions c.args.action c.item-action.result.now c.item-action.ensures c.args.self.now.in_range).add (omega (arith, c.requires.width))

pub returns : goal.returns
returns c =
    subst (λ wanted. IsFirstLack wanted c.args.among.now.members c.least_missing.result)
    (ap set_of c.as_slice.ensures ∙ sym (ap (λ a. a.add) (action_kept c.args.self.now.atoms c.args.self.now.start c.args.self.now.goal c.args.self.now.actions c.args.action c.item-action.result.now c.item-action.ensures))) c.least_missing.ensures
