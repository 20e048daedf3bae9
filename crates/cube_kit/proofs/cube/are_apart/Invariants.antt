use Rattle.std.proofs.Common.{◌≡◌, ℕ, ◌<◌, true, false}
use Rattle.std.specs.FinSet as set
use Rattle.cube_kit.proofs.cube.are_apart.Given as goal

abbrev pub invariant-loop-place : goal.invariant-loop-place
invariant-loop-place l = (k : ℕ) → k < l.place → set.contains l.one k ≡ true → set.contains l.two k ≡ false
