use Rattle.std.proofs.Common.{ℕ, ◌<◌}
use Rattle.pddl_names.specs.Forests.{IsMarked, IsSettled}
use Rattle.pddl_names.proofs.forests.forest_of.Given as goal

abbrev pub invariant-loop-start : goal.invariant-loop-start
invariant-loop-start l = record {
  settled : IsSettled l.ups.items l.nodes.items l.done.items l.seen.items;
  so_far : (number : ℕ) → number < l.start → IsMarked l.done.items number;
}
