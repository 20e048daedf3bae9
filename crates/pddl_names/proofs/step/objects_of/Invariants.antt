use Rattle.std.proofs.Common.{◌≡◌, ◌+◌, [], drop}
use Rattle.pddl_names.specs.Reading.{objects_from}
use Rattle.pddl_names.proofs.step.objects_of.Given as goal

abbrev pub invariant-loop-place : goal.invariant-loop-place
invariant-loop-place l = objects_from l.words [] (drop 1 l.line) l.types ≡ objects_from l.words l.found (drop (l.place + 1) l.line) (drop l.place l.types)
