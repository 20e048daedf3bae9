use Rattle.std.proofs.Common.{◌≡◌, map, take}
use Rattle.pddl_names.specs.Texts.{type_name}
use Rattle.pddl_names.proofs.known.type_names.Given as goal

abbrev pub invariant-loop-place : goal.invariant-loop-place
invariant-loop-place l = l.made ≡ map (type_name l.types) (take l.place l.numbers)
