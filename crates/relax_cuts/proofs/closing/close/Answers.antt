use Rattle.std.proofs.Common.{ap, subst}
use Rattle.relax_cuts.specs.Closing.{Spreads}
use Rattle.relax_cuts.proofs.GrowLemmas.{spreads-trans}
use Rattle.relax_cuts.proofs.closing.close.Goals as goal

pub returns-clause-spreads : goal.returns-clause-spreads
returns-clause-spreads g c =
    let task = g.T.TaskView.seen c.args.task.now in
    subst (λ s. Spreads task c.args.left.now.items 0 s c.settle.new.among.members) (ap (λ b. b.members) c.in_ok-copy.ensures.ok)
    (spreads-trans task c.args.left.now.items 0 c.in_ok-copy.field-0.members c.spread.new.growing.among.members c.settle.new.among.members c.in_ok-spread.ensures.spreads c.settle.ensures.spreads)
