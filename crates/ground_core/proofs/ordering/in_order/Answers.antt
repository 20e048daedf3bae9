use Rattle.ground_core.proofs.OrderLemmas.{laid_in_order}
use Rattle.ground_core.proofs.ordering.in_order.Goals as goal

pub returns : goal.returns
returns g c = laid_in_order (g.T.Printable.form c.args.words.now) c.args.things.now c.in_ok-index.index c.in_ok-lay_out.field-0 c.in_ok-index.ensures c.in_ok-lay_out.ensures
