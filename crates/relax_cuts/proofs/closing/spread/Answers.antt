use Rattle.relax_cuts.proofs.GrowLemmas.{spreads-trans}
use Rattle.relax_cuts.proofs.closing.spread.Goals as goal

pub returns-clause-spreads : goal.returns-clause-spreads
returns-clause-spreads g c =
    spreads-trans (g.T.TaskView.seen c.args.task.now) c.args.left.now.items c.args.limit c.args.growing.now.among.members c.expand_all.new.growing.among.members c.expand_ready.new.growing.among.members
    c.in_ok-expand_all.ensures.spreads c.in_ok-expand_ready.ensures.spreads
