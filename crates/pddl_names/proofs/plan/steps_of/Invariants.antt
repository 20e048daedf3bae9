use Rattle.std.proofs.Common.{◌≡◌, [], drop}
use Rattle.pddl_names.specs.Reading.{steps_from}
use Rattle.pddl_names.proofs.plan.steps_of.Given as goal

abbrev pub invariant-loop-place : goal.invariant-loop-place
invariant-loop-place l = steps_from l.words [] l.lines ≡ steps_from l.words l.steps (drop l.place l.lines)
