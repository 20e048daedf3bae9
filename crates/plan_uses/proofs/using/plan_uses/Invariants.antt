use Rattle.std.proofs.Common.{◌≡◌, ◌+◌}
use Rattle.mre_base.specs.Sets.{set_below}
use Rattle.feature_diff.specs.Differing.{places_of}
use Rattle.plan_uses.specs.Uses.{is_used_at}
use Rattle.plan_uses.proofs.using.plan_uses.Given as goal

abbrev pub invariant-loop-place : goal.invariant-loop-place
invariant-loop-place l = l.used ≡ set_below (is_used_at l.plan.steps (places_of l.differences)) (l.place + 1)
