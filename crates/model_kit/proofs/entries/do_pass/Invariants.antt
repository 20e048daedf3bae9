use Rattle.std.proofs.Common.{◌≡◌, drop}
use Rattle.std.specs.List.{list_all}
use Rattle.model_kit.proofs.entries.do_pass.Given as goal

abbrev pub invariant-loop-place : goal.invariant-loop-place
invariant-loop-place g l = list_all (g.T.Entry.passes l.given) (drop l.place l.entries) ≡ list_all (g.T.Entry.passes l.given) l.entries
