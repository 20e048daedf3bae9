use Rattle.std.proofs.Common.{ℕ, List, subst, ◌-◌}
use Rattle.pddl_names.specs.Numbers.{PutsNumber}
use Rattle.pddl_names.proofs.TableLemmas.{table_put}
use Rattle.pddl_names.proofs.names.NameTable.of.Goals as goal

pub loop-place-preserved : goal.loop-place-preserved
loop-place-preserved g c =
    table_put g.T.Named.name_of c.args.entries.now c.loop-place.place c.item.result.now c.loop-place-test.true c.item.ensures
    c.loop-place.table c.put.new.self c.loop-place.invariant
    (subst (λ (bytes : List ℕ). PutsNumber c.loop-place.table c.put.new.self bytes (c.loop-place.place - 1)) c.name.ensures c.in_ok-put.ensures.ok)
