use Rattle.std.proofs.Common.{◌≡◌, map, take}
use Rattle.pddl_names.specs.TypeTrees.{parent_number}
use Rattle.pddl_names.proofs.climbing.parent_numbers.Given as goal

abbrev pub invariant-loop-place : goal.invariant-loop-place
invariant-loop-place l = l.made.items ≡ map (parent_number l.names.entries) (take l.place l.names.entries)
