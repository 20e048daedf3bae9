use Rattle.std.proofs.Common.{ap, ◌∙◌, refl}
use Rattle.relax_cuts.proofs.GrowLemmas.{spreads_none, spreads-trans, spreads_loose, lacked_less}
use Rattle.relax_cuts.proofs.closing.settle.Goals as goal

pub loop-atom-init : goal.loop-atom-init
loop-atom-init g c = record { spreads = spreads_none (g.T.TaskView.seen c.args.task.now) c.args.left.now.items 0 c.args.among.now.members; width = refl }

pub loop-atom-smaller : goal.loop-atom-smaller
loop-atom-smaller g c =
    let loose = c.in-Some.ensures in
    lacked_less (g.T.TaskView.seen c.args.task.now).atoms c.loop-atom.among.members c.put.new.self.members c.in-Some.atom ((c.requires.task.each loose.action).add c.in-Some.atom loose.added) loose.outside (ap (λ b. b.members) c.put.ensures)

pub loop-atom-preserved : goal.loop-atom-preserved
loop-atom-preserved g c =
    record {
      spreads = spreads-trans (g.T.TaskView.seen c.args.task.now) c.args.left.now.items 0 c.args.among.now.members c.loop-atom.among.members c.put.new.self.members c.loop-atom.invariant.spreads
          (spreads_loose (g.T.TaskView.seen c.args.task.now) c.args.left.now.items 0 c.loop-atom.among.members c.put.new.self.members c.in-Some.atom c.requires.task c.in-Some.ensures (ap (λ b. b.members) c.put.ensures));
      width = ap (λ b. b.width) c.put.ensures ∙ c.loop-atom.invariant.width;
    }
