use Rattle.std.proofs.Common.{sym, ◌∙◌}
use Rattle.mre_base.proofs.Loops.{drop_item}
use Rattle.mre_outside.proofs.Lookups.{find_here, find_later}
use Rattle.mre_outside.proofs.memory_shelf.given_under.Goals as goal

pub returns-then-eq : goal.returns-then-eq
returns-then-eq c =
    let first = drop_item c.args.given.now c.loop-place.place c.item-file.result.now c.item-file.ensures in
    let found = find_here c.args.name.now _ _ _ _ first _ c.as_str.ensures (sym c.eq.ensures ∙ c.if-eq.true) in
    cc

pub loop-place-preserved : goal.loop-place-preserved
loop-place-preserved c =
    let first = drop_item c.args.given.now c.loop-place.place c.item-file.result.now c.item-file.ensures in
    let later = find_later c.args.name.now _ _ _ _ first _ c.as_str.ensures (sym c.eq.ensures ∙ c.if-eq.false) in
    cc
