use Rattle.std.proofs.Common.{◌≡◌, ℕ, ◌<◌, true, get_or}
use Rattle.std.specs.FinSet as set
use Rattle.cow_models.proofs.atoms.has_all.Given as goal

abbrev pub invariant-loop-atom : goal.invariant-loop-atom
invariant-loop-atom l = (i : ℕ) → i < l.atom-index → set.contains l.bits.members (get_or l.atoms i 0) ≡ true
