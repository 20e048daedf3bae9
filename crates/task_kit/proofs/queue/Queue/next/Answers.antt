use Rattle.task_kit.proofs.QueueLemmas.{takes_out}
use Rattle.task_kit.proofs.queue.Queue.next.Goals as goal

pub returns-clause-some : goal.returns-clause-some
returns-clause-some c = takes_out c.args.self.now _ _ c.in_ok-place.field-0 c.self.view_is c.in_ok-place.ensures.permutation
