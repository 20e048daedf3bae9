use Rattle.std.proofs.Common.{◌≡◌, ◌*◌, ◌≤◌, length, filter}
use Rattle.std.specs.List.{range_with_len}
use Rattle.mre_base.specs.Words.{has_bit}
use Rattle.mre_base.proofs.words.count.Given as goal

abbrev pub invariant-loop-word : goal.invariant-loop-word
invariant-loop-word l = record {
  counted : l.set ≡ length (filter (has_bit l.words) (range_with_len 0 (64 * l.word-index)));
  small : l.set ≤ 64 * l.word-index;
}
