use Rattle.std.proofs.Common.{◌≡◌, take, map}
use Rattle.feature_diff.proofs.told.forms.Given as goal

abbrev pub invariant-loop-place : goal.invariant-loop-place
invariant-loop-place g l = l.forms ≡ map (g.T.Told.form l.words) (take l.place l.items)
