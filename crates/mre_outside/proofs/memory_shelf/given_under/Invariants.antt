use Rattle.std.proofs.Common.{◌≡◌, drop}
use Rattle.mre_outside.specs.Shelves.{first_under}
use Rattle.mre_outside.proofs.memory_shelf.given_under.Given as goal

abbrev pub invariant-loop-place : goal.invariant-loop-place
invariant-loop-place l = first_under l.given l.name ≡ first_under (drop l.place l.given) l.name
