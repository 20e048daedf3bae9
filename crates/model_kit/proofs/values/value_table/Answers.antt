use Rattle.std.proofs.Common.{refl}
use Rattle.model_kit.proofs.TableLemmas.{table_more}
use Rattle.model_kit.proofs.values.value_table.Goals as goal

pub loop-place-preserved : goal.loop-place-preserved
loop-place-preserved c =
    table_more c.args.values.now _ c.item.result.now c.loop-place-test.true c.item.ensures _ refl c.in_ok-copy.ensures.ok c.loop-place.table c.insert.new.self c.loop-place.invariant c.in_ok-insert.ensures.updates
