use Rattle.std.proofs.Common.{ℕ, ◌≡◌, ◌<◌, length, slice_index}
use Rattle.bound_cert.proofs.charging.charge_none.Given as goal

abbrev pub invariant-loop-place : goal.invariant-loop-place
invariant-loop-place l =
    record {
      sized : length l.charged.items ≡ length l.initial.charged.items;
      none : (action : ℕ) → action < l.place → slice_index l.charged.items action ≡ 0;
    }
