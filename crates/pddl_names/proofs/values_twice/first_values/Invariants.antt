use Rattle.std.proofs.Common.{◌≡◌, length}
use Rattle.pddl_names.proofs.CallLemmas.{FirstsTo}
use Rattle.pddl_names.proofs.values_twice.first_values.Given as goal

abbrev pub invariant-loop-place : goal.invariant-loop-place
invariant-loop-place l = record {
  size : length l.firsts.items ≡ length l.words;
  firsts : FirstsTo l.words l.place l.firsts.items;
}
