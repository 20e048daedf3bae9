use Rattle.std.proofs.lemmas.Bool.{ltb-true}
use Rattle.task_kit.specs.Reached.{reached}
use Rattle.task_kit.proofs.ReachedLemmas.{beaten}
use Rattle.task_kit.proofs.reached.Table.is_beaten.Goals as goal

pub returns : goal.returns
returns c =
    λ less. beaten (reached c.args.self.now) c.requires.indexed c.args.node c.last_cost.result c.requires.stated c.last_cost.ensures (ltb-true c.last_cost.result c.args.node.cost less)
