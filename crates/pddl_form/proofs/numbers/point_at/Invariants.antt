use Rattle.std.proofs.Common.{◌≡◌, ◌+◌, drop}
use Rattle.pddl_form.specs.Numbers.{point_at}
use Rattle.pddl_form.proofs.numbers.point_at.Given as goal

abbrev pub invariant-loop-place : goal.invariant-loop-place
invariant-loop-place l = point_at l.text ≡ l.place + point_at (drop l.place l.text)
