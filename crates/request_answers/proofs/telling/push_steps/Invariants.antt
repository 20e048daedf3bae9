use Rattle.std.proofs.Common.{◌≡◌, ◌++◌, map, take}
use Rattle.request_answers.specs.Lines.{line}
use Rattle.request_answers.proofs.telling.push_steps.Given as goal

abbrev pub invariant-loop-place : goal.invariant-loop-place
invariant-loop-place l = l.lines ≡ l.fn.lines ++ map line (take l.place l.steps)
