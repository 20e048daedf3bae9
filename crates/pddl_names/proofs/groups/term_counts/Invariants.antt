use Rattle.std.proofs.Common.{ℕ, ◌+◌, ◌≤◌, length}
use Rattle.pddl_names.proofs.CountLemmas.{count_behind}
use Rattle.pddl_names.proofs.ScanLemmas.{ScannedFrom}
use Rattle.pddl_names.proofs.groups.term_counts.Given as goal

abbrev pub invariant-loop-place : goal.invariant-loop-place
invariant-loop-place l = record {
  scanned : ScannedFrom (λ (n : ℕ). n) count_behind l.words l.place l.behind l.counts.items;
  room : l.behind + l.place ≤ length l.words;
}
