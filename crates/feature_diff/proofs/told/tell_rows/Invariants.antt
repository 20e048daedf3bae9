use Rattle.std.proofs.Common.{take}
use Rattle.std.specs.List.{flat_map}
use Rattle.feature_diff.specs.Gathering.{Grows, row_told}
use Rattle.feature_diff.proofs.told.tell_rows.Given as goal

abbrev pub invariant-loop-place : goal.invariant-loop-place
invariant-loop-place g l = Grows l.initial.gathered l.gathered (flat_map (row_told (g.T.Told.alone l.kind) (g.T.Told.both l.kind) l.planner l.user) (take l.place l.rows))
