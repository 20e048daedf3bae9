use Rattle.std.proofs.Common.{◌≡◌, ◌++◌, take}
use Rattle.feature_diff.specs.Blending.{is_told_at, those}
use Rattle.feature_diff.proofs.blending.keep.Given as goal

abbrev pub invariant-loop-place : goal.invariant-loop-place
invariant-loop-place g l = l.made ≡ l.initial.made ++ those (λ x. is_told_at l.differences l.told (g.T.Spot.place l.kind x)) l.wanted (take l.place l.items)
