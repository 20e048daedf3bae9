use Rattle.pddl_names.proofs.PathLemmas.{Settling}
use Rattle.pddl_names.proofs.forests.settle.Given as goal

abbrev pub invariant-loop-place : goal.invariant-loop-place
invariant-loop-place l = Settling l.ups.items l.nodes.items l.done.items l.fn.done.items l.seen.items l.path.items l.end l.place
