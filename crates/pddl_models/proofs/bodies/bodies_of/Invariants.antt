use Rattle.std.proofs.Common.{◌≡◌, ◌++◌, map, drop}
use Rattle.pddl_vocabulary.specs.Values.{actions_in}
use Rattle.pddl_models.specs.Says.{body_said}
use Rattle.pddl_models.proofs.bodies.bodies_of.Given as goal

abbrev pub invariant-loop-place : goal.invariant-loop-place
invariant-loop-place l = l.made ++ map (body_said l.words) (actions_in (drop l.place l.said)) ≡ map (body_said l.words) (actions_in l.said)
