use Rattle.pddl_names.specs.Forests.{IsPath, unmarked}
use Rattle.pddl_names.proofs.forests.path_from.Given as goal

abbrev pub invariant-loop-seen : goal.invariant-loop-seen
invariant-loop-seen l = IsPath l.ups.items l.fn.seen.items l.seen.items l.fn.start l.path.items l.at

abbrev pub decreases-loop-seen : goal.decreases-loop-seen
decreases-loop-seen l = unmarked l.seen.items
