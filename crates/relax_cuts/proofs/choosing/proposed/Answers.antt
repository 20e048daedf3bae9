use Rattle.std.proofs.Common.{ap, subst}
use Rattle.relax_cuts.specs.Closing.{Spreads}
use Rattle.relax_cuts.proofs.choosing.proposed.Goals as goal

pub returns-clause-spreads : goal.returns-clause-spreads
returns-clause-spreads g c =
    subst (λ s. Spreads (g.T.TaskView.seen c.args.task.now) c.args.left.now.items 18446744073709551615 s c.spread.new.growing.among.members) (ap (λ b. b.members) c.in_ok-copy.ensures.ok) c.in_ok-spread.ensures.spreads
