use Rattle.task_kit.proofs.QueueLemmas.{puts_in}
use Rattle.task_kit.proofs.queue.Queue.put.Goals as goal

pub returns : goal.returns
returns c = puts_in c.args.self.now _ _ c.args.cost c.args.place c.self.view_is c.in_ok-push.ensures.permutation
