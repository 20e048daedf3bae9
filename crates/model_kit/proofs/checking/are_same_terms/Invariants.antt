use Rattle.std.proofs.Common.{◌≡◌, drop}
use Rattle.std.specs.Cmp.Lexicographic.{pointwise}
use Rattle.model_kit.specs.Same.{same_term}
use Rattle.model_kit.proofs.checking.are_same_terms.Given as goal

abbrev pub invariant-loop-place : goal.invariant-loop-place
invariant-loop-place l = pointwise same_term (drop l.place l.one) (drop l.place l.other) ≡ pointwise same_term l.one l.other
