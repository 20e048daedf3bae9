use Rattle.std.proofs.Common.{rules}
use Rattle.ground_core.proofs.OrderLemmas.{index_none, index_more, one_more, index_whole}
use Rattle.ground_core.proofs.ordering.index_of.Goals as goal

pub loop-place-init : goal.loop-place-init
loop-place-init g c = index_none (g.T.Printable.form c.args.words.now) c.args.things.now c.new-index.result c.new-index.ensures.empty

pub loop-place-preserved : goal.loop-place-preserved
loop-place-preserved g c =
    let words = c.args.words.now in
    let things = c.args.things.now in
    index_more (g.T.Printable.form words) (g.T.Printable.Fits words) (g.T.Printable.apart words) things c.requires c.loop-place.place c.item-thing.result.now c.item-thing.ensures c.loop-place.index c.insert.new.self c.in_ok-name.name
    c.in_ok-again.field-0 c.in_ok-name.ensures c.in_ok-again.ensures c.loop-place.invariant c.in_ok-insert.ensures.updates (one_more _ _ _ c.in_ok-insert.ensures.len)

pub returns : goal.returns
returns g c = index_whole (g.T.Printable.form c.args.words.now) c.args.things.now c.loop-place.place c.loop-place.index (search rules) c.loop-place.invariant
