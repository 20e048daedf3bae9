use Rattle.std.proofs.Common.{◌≡◌, true, drop}
use Rattle.model_kit.specs.Names.{are_distinct}
use Rattle.model_kit.proofs.entries.do_differ.Given as goal

abbrev pub invariant-loop-place : goal.invariant-loop-place
invariant-loop-place g l = are_distinct g.T.Entry.same (drop l.place l.entries) ≡ true
