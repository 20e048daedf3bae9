use Rattle.std.proofs.Common.{◌∙◌, refl}
use Rattle.relax_cuts.proofs.GrowLemmas.{spreads_none, spreads-trans}
use Rattle.relax_cuts.proofs.closing.expand_all.Goals as goal

pub loop-action-init : goal.loop-action-init
loop-action-init g c =
    record { spreads = spreads_none (g.T.TaskView.seen c.args.task.now) c.args.left.now.items c.args.limit c.args.growing.now.among.members; among = refl; skipped = refl; room = c.requires.room }

pub loop-action-preserved : goal.loop-action-preserved
loop-action-preserved g c =
    record {
      spreads = spreads-trans (g.T.TaskView.seen c.args.task.now) c.args.left.now.items c.args.limit c.args.growing.now.among.members c.loop-action.growing.among.members c.expand.new.growing.among.members
          c.loop-action.invariant.spreads c.in_ok-expand.ensures.spreads;
      among = c.in_ok-expand.ensures.among_width ∙ c.loop-action.invariant.among;
      skipped = c.in_ok-expand.ensures.skipped_width ∙ c.loop-action.invariant.skipped;
      room = c.in_ok-expand.ensures.room;
    }
