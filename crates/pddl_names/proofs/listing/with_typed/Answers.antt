use Rattle.std.proofs.Common.{sym, ◌∙◌}
use Rattle.pddl_names.proofs.KnownLemmas.{typed_more, typed_passed, type_told}
use Rattle.pddl_names.proofs.listing.with_typed.Goals as goal

pub loop-place-preserved-then-not-has : goal.loop-place-preserved-then-not-has
loop-place-preserved-then-not-has c =
    typed_passed c.args.kind c.args.words.now c.args.entries c.requires.kind c.loop-place.place c.item-word.result.now c.item-word.ensures c.loop-place.made
    (sym c.has.ensures ∙ c.if-not-has.true) c.loop-place.invariant

pub loop-place-preserved : goal.loop-place-preserved
loop-place-preserved c =
    let told = type_told c.args.words.now c.args.places.now.items c.requires.places c.loop-place.place c.item-word.result.now c.item-word.ensures c.index.result.now c.index.ensures
    c.in_ok-parent.parent c.in_ok-parent.ensures.ok in
    typed_more c.args.kind c.args.words.now c.args.entries c.requires.kind c.loop-place.place c.item-word.result.now c.item-word.ensures c.loop-place.made c.push.new.self _
    (sym c.has.ensures ∙ c.if-not-has.false) c.loop-place.invariant c.in_ok-push.ensures.ok (λ i. (c.in_ok-copy.ensures.ok i, told i))
