use Rattle.std.proofs.Common.{◌≡◌, take, map}
use Rattle.pair_rules.specs.Made.{key_of}
use Rattle.pair_rules.proofs.parts.planner_keys.Given as goal

abbrev pub invariant-loop-place : goal.invariant-loop-place
invariant-loop-place l = l.made ≡ map key_of (take l.place l.values)
