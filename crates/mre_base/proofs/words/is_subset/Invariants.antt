use Rattle.std.proofs.Common.{◌≡◌, ℕ, ◌<◌, get_or, bit_and}
use Rattle.std.specs.Int.{bit_not, w64}
use Rattle.mre_base.proofs.words.is_subset.Given as goal

abbrev pub invariant-loop-i : goal.invariant-loop-i
invariant-loop-i l = (j : ℕ) → j < l.i → bit_and (get_or l.one j 0) (bit_not w64 (get_or l.two j 0)) ≡ 0
