use Rattle.relax_cuts.proofs.LeaveLemmas.{above_all}
use Rattle.relax_cuts.proofs.choosing.by_closure.Goals as goal

pub returns : goal.returns
returns g c =
    record {
      width = c.requires.width;
      cut_set = c.requires.cut_set;
      least = c.least_left-least.ensures;
      above = above_all (g.T.TaskView.seen c.args.task.now) c.args.left.now.items c.args.closure.members c.least_left-least.result c.requires.closed c.least_left-least.ensures;
    }
