use Rattle.std.proofs.Common.{ℕ, ◌≡◌, ◌<◌, true}
use Rattle.std.specs.FinSet as set
use Rattle.task_kit.specs.Tasks.{action_at}
use Rattle.relax_cuts.specs.Closing.{IsUsable}
use Rattle.relax_cuts.proofs.closing.loose_atom.Given as goal

abbrev pub invariant-loop-action : goal.invariant-loop-action
invariant-loop-action g l =
    (action : ℕ) → action < l.action → IsUsable (g.T.TaskView.seen l.task) l.left.items 0 action l.among.members
    → set.is_subset (action_at (g.T.TaskView.seen l.task) action).add l.among.members ≡ true
