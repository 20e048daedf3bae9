use Rattle.std.proofs.Common.{◌≡◌, ◌++◌, map, take}
use Rattle.pddl_names.specs.TypeTrees.{parent_entry}
use Rattle.pddl_names.proofs.climbing.parents_of.Given as goal

abbrev pub invariant-loop-place : goal.invariant-loop-place
invariant-loop-place l = l.made ≡ l.fn.before ++ map parent_entry (take l.place l.types)
