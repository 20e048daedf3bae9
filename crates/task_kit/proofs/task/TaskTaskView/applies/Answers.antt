use Rattle.std.proofs.Common.{◌+◌, ◌&&◌, is_some, sym, ap, ◌∙◌, arith}
use Rattle.std.specs.FinSet as set
use Rattle.task_kit.specs.Tasks.{set_of}
use Rattle.task_kit.proofs.KeptLemmas.{all_below, in_range_at, action_kept}
use Rattle.task_kit.proofs.task.TaskTaskView.applies.Goals as goal

pub has_all-requires : goal.has_all-requires
has_all-requires c =
    all_below (c.args.self.now.atoms + 1) c.args.state.now.width c.item-action.result.now.pre c.as_slice.result.now c.as_slice.ensures
    (in_range_at c.args.self.now.atoms c.args.self.now.start c.args.self.now.goal c.args.self.now.actions c.args.action c.item-action.result.now c.item-action.ensures c.args.self.now.in_range).pre (omega (arith, c.requires.width))

pub returns-then-is_some : goal.returns-then-is_some
returns-then-is_some c =
    c.has_all.ensures ∙ ap (λ xs. set.is_subset (set_of xs) c.args.state.now.members) c.as_slice.ensures
    ∙ ap (λ b. b && set.is_subset (set_of c.item-action.result.now.pre) c.args.state.now.members) (sym c.if-is_some.true ∙ c.is_some.ensures)
    ∙ sym (ap (λ a. is_some a.cost && set.is_subset a.pre c.args.state.now.members) (action_kept c.args.self.now.atoms c.args.self.now.start c.args.self.now.goal c.args.self.now.actions c.args.action c.item-action.result.now c.item-action.ensures))

pub returns-else-is_some : goal.returns-else-is_some
returns-else-is_some c =
    c.if-is_some.false ∙ ap (λ b. b && set.is_subset (set_of c.item-action.result.now.pre) c.args.state.now.members) (sym c.if-is_some.false ∙ c.is_some.ensures)
    ∙ sym (ap (λ a. is_some a.cost && set.is_subset a.pre c.args.state.now.members) (action_kept c.args.self.now.atoms c.args.self.now.start c.args.self.now.goal c.args.self.now.actions c.args.action c.item-action.result.now c.item-action.ensures))
