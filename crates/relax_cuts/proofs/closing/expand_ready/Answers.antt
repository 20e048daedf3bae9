use Rattle.std.proofs.Common.{◌∙◌, refl}
use Rattle.relax_cuts.proofs.GrowLemmas.{spreads_none, spreads-trans}
use Rattle.relax_cuts.proofs.closing.expand_ready.Goals as goal

pub loop-init : goal.loop-init
loop-init g c =
    record { spreads = spreads_none (g.T.TaskView.seen c.args.task.now) c.args.left.now.items c.args.limit c.args.growing.now.among.members; among = refl; skipped = refl; room = c.requires.room }

pub loop-preserved : goal.loop-preserved
loop-preserved g c =
    record {
      spreads = spreads-trans (g.T.TaskView.seen c.args.task.now) c.args.left.now.items c.args.limit c.args.growing.now.among.members c.loop.growing.among.members c.expand.new.growing.among.members
          c.loop.invariant.spreads c.in_ok-expand.ensures.spreads;
      among = c.in_ok-expand.ensures.among_width ∙ c.loop.invariant.among;
      skipped = c.in_ok-expand.ensures.skipped_width ∙ c.loop.invariant.skipped;
      room = c.in_ok-expand.ensures.room;
    }
