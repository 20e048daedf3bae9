use Rattle.std.proofs.Common.{◌≡◌, take}
use Rattle.mre_base.proofs.copied.ListCopied.copied.Given as goal

abbrev pub invariant-loop-place : goal.invariant-loop-place
invariant-loop-place g l = l.made ≡ take l.place l.self
