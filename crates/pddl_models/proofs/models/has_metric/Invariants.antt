use Rattle.std.proofs.Common.{◌≡◌, drop}
use Rattle.pddl_models.specs.Says.{has_metric}
use Rattle.pddl_models.proofs.models.has_metric.Given as goal

abbrev pub invariant-loop-place : goal.invariant-loop-place
invariant-loop-place l = has_metric (drop l.place l.said) ≡ has_metric l.said
