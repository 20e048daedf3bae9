use Rattle.std.proofs.Common.{◌≡◌, ◌++◌, take, map}
use Rattle.std.specs.List.{filter_map}
use Rattle.pair_rules.specs.Made.{key_of, user_key}
use Rattle.pair_rules.proofs.parts.keys_of.Given as goal

abbrev pub invariant-loop-place : goal.invariant-loop-place
invariant-loop-place l = l.made ≡ map key_of l.values ++ filter_map user_key (take l.place l.differences)
