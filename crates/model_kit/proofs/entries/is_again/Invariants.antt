use Rattle.std.proofs.Common.{◌≡◌, ◌+◌, drop}
use Rattle.std.specs.List.{list_any}
use Rattle.model_kit.proofs.entries.is_again.Given as goal

abbrev pub invariant-loop-later : goal.invariant-loop-later
invariant-loop-later g l = list_any (g.T.Entry.same l.entry) (drop l.later l.entries) ≡ list_any (g.T.Entry.same l.entry) (drop (l.place + 1) l.entries)
