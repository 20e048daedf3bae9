use Rattle.std.proofs.Common.{◌≡◌, take}
use Rattle.request_answers.specs.Counts.{most_of}
use Rattle.request_answers.proofs.counting.most_of.Given as goal

abbrev pub invariant-loop-place : goal.invariant-loop-place
invariant-loop-place l = l.most ≡ most_of (take l.place l.signatures)
