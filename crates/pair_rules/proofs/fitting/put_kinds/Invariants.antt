use Rattle.std.proofs.Common.{◌≡◌, ◌<◌, ℕ, true, Some}
use Rattle.std.specs.Prelude.{slice_get}
use Rattle.std.specs.FinSet as set
use Rattle.pair_rules.proofs.fitting.put_kinds.Given as goal

abbrev pub invariant-loop-place : goal.invariant-loop-place
invariant-loop-place l =
    record {
      width : l.used.width ≡ l.initial.used.width;
      grows : (kind : ℕ) → set.contains l.initial.used.members kind ≡ true → set.contains l.used.members kind ≡ true;
      there : (i kind : ℕ) → i < l.place → slice_get l.kinds i ≡ Some kind → set.contains l.used.members kind ≡ true;
    }
