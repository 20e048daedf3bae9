use Rattle.std.proofs.Common.{sym, ◌∙◌}
use Rattle.pddl_names.proofs.KnownLemmas.{signed_more, signed_passed}
use Rattle.pddl_names.proofs.listing.with_signed.Goals as goal

pub loop-place-preserved-then-not-has : goal.loop-place-preserved-then-not-has
loop-place-preserved-then-not-has c =
    signed_passed c.args.kind c.args.words.now c.args.entries c.requires.kind c.loop-place.place c.item-word.result.now c.item-word.ensures c.loop-place.made
    (sym c.has.ensures ∙ c.if-not-has.true) c.loop-place.invariant

pub loop-place-preserved : goal.loop-place-preserved
loop-place-preserved c =
    signed_more c.args.kind c.args.words.now c.args.entries c.requires.kind c.loop-place.place c.item-word.result.now c.item-word.ensures c.loop-place.made c.push.new.self _
    (sym c.has.ensures ∙ c.if-not-has.false) c.loop-place.invariant c.in_ok-push.ensures.ok (λ i. (c.in_ok-copy.ensures.ok i, c.in_ok-types.ensures.ok i))
