use Rattle.std.proofs.Common.{◌≡◌, ◌++◌, take}
use Rattle.std.specs.List.{filter_map}
use Rattle.pair_rules.specs.Made.{user_init}
use Rattle.pair_rules.proofs.parts.facts_of.Given as goal

abbrev pub invariant-loop-place : goal.invariant-loop-place
invariant-loop-place l = l.made ≡ l.init ++ filter_map user_init (take l.place l.differences)
