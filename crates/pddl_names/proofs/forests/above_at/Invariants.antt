use Rattle.pddl_names.specs.Forests.{node_at}
use Rattle.pddl_names.proofs.ReachLemmas.{IsSteppedFrom}
use Rattle.pddl_names.proofs.forests.above_at.Given as goal

abbrev pub invariant-loop-at : goal.invariant-loop-at
invariant-loop-at l = IsSteppedFrom l.ups.items l.nodes.items l.from l.at l.depth

abbrev pub decreases-loop-at : goal.decreases-loop-at
decreases-loop-at l = (node_at l.nodes.items l.at).depth
