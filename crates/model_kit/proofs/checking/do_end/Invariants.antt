use Rattle.std.proofs.Common.{◌≡◌, true, ℕ, ◌<◌}
use Rattle.model_kit.specs.Types.{is_of_type}
use Rattle.model_kit.proofs.checking.do_end.Given as goal

abbrev pub invariant-loop-number : goal.invariant-loop-number
invariant-loop-number l = (k : ℕ) → k < l.number → is_of_type l.types k 0 ≡ true
