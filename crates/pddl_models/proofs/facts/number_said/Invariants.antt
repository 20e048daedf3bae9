use Rattle.std.proofs.Common.{◌≡◌, drop}
use Rattle.pddl_names.specs.Listings.{number_behind}
use Rattle.pddl_models.proofs.facts.number_said.Given as goal

abbrev pub invariant-loop-place : goal.invariant-loop-place
invariant-loop-place l = number_behind (drop l.place l.said) ≡ number_behind (drop l.fn.start l.said)
