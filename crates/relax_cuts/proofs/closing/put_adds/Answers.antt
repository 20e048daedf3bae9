use Rattle.std.proofs.Common.{ap, ◌∙◌, refl}
use Rattle.task_kit.specs.Tasks.{action_at}
use Rattle.relax_cuts.proofs.GrowLemmas.{adds_none, adds_more}
use Rattle.relax_cuts.proofs.closing.put_adds.Goals as goal

pub loop-init : goal.loop-init
loop-init g c =
    record { adds = adds_none (action_at (g.T.TaskView.seen c.args.task.now) c.args.action).add c.args.growing.now.among.members; among = refl; skipped = refl; room = c.requires.room }

pub loop-preserved : goal.loop-preserved
loop-preserved g c =
    record {
      adds = adds_more (action_at (g.T.TaskView.seen c.args.task.now) c.args.action).add c.args.growing.now.among.members c.loop.growing.among.members c.put-in-loop.new.self.members c.in-Some.atom
          c.loop.invariant.adds c.in-Some.ensures.is_wanted (ap (λ b. b.members) c.put-in-loop.ensures);
      among = ap (λ b. b.width) c.put-in-loop.ensures ∙ c.loop.invariant.among;
      skipped = ap (λ b. b.width) c.put.ensures ∙ c.loop.invariant.skipped;
      room = record { lists = c.in_ok-release.ensures.lists ∙ c.loop.invariant.room.lists; places = c.in_ok-release.ensures.places ∙ c.loop.invariant.room.places };
    }
