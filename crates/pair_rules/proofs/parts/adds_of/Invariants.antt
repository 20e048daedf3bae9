use Rattle.std.proofs.Common.{◌≡◌, ◌++◌, take}
use Rattle.std.specs.List.{filter_map}
use Rattle.pair_rules.specs.Made.{user_add}
use Rattle.pair_rules.proofs.parts.adds_of.Given as goal

abbrev pub invariant-loop-place : goal.invariant-loop-place
invariant-loop-place l = l.made ≡ l.add ++ filter_map (user_add l.action) (take l.place l.differences)
