use Rattle.std.proofs.Common.{sym, ◌∙◌}
use Rattle.pddl_names.proofs.KindLemmas.{kind_put, kind_passed}
use Rattle.pddl_names.proofs.names.NameTable.of_kind.Goals as goal

pub loop-place-preserved-in-Continue-1 : goal.loop-place-preserved-in-Continue-1
loop-place-preserved-in-Continue-1 c =
    kind_put c.args.kind c.args.words.now c.loop-place.place c.item-word.result.now c.loop-place-test.true c.item-word.ensures
    c.loop-place.table c.put.new.self c.loop-place.invariant (sym c.has.ensures ∙ c.if-has.true) c.in_ok-put.ensures.ok

pub loop-place-preserved : goal.loop-place-preserved
loop-place-preserved c =
    kind_passed c.args.kind c.args.words.now c.loop-place.place c.item-word.result.now c.loop-place-test.true c.item-word.ensures
    c.loop-place.table c.loop-place.invariant (sym c.has.ensures ∙ c.if-has.false)
