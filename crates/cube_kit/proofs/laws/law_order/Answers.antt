use Rattle.cube_kit.proofs.OrderLemmas.{order_law}
use Rattle.cube_kit.proofs.laws.law_order.Goals as goal

pub returns : goal.returns
returns c = order_law
