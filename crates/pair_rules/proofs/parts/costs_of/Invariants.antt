use Rattle.std.proofs.Common.{◌≡◌, ◌++◌, [], ◌∷◌, take}
use Rattle.std.specs.List.{filter_map}
use Rattle.pair_rules.specs.Made.{user_cost}
use Rattle.pair_rules.proofs.parts.costs_of.Given as goal

abbrev pub invariant-loop-place : goal.invariant-loop-place
invariant-loop-place l = l.made ≡ (l.cost ∷ []) ++ filter_map (user_cost l.action) (take l.place l.differences)
