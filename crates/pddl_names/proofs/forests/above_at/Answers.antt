use Rattle.pddl_names.proofs.ReachLemmas.{stepped_start, stepped_more}
use Rattle.pddl_names.proofs.forests.above_at.Goals as goal

pub loop-at-init : goal.loop-at-init
loop-at-init c = stepped_start c.args.ups.now.items c.args.nodes.now.items c.requires.forest c.args.from c.args.depth c.requires.deep

pub loop-at-preserved : goal.loop-at-preserved
loop-at-preserved c =
    stepped_more c.args.ups.now.items c.args.nodes.now.items c.requires.forest c.args.from c.loop-at.at c.step_up-at.result c.args.depth c.loop-at.invariant c.step_up-at.ensures
