use Rattle.std.proofs.Common.{◌+◌, ◌*◌}
use Rattle.feature_diff.specs.Parts.{IsGathered}
use Rattle.feature_diff.proofs.actions.tell_actions.Given as goal

abbrev pub invariant-loop-action : goal.invariant-loop-action
invariant-loop-action l = IsGathered l.planner l.user (2 + 5 * l.action) l.gathered
