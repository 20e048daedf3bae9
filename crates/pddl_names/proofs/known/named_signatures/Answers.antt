use Rattle.mre_base.proofs.Loops.{map_item}
use Rattle.pddl_names.specs.Texts.{signature_declared}
use Rattle.pddl_names.proofs.known.named_signatures.Goals as goal

pub loop-place-preserved : goal.loop-place-preserved
loop-place-preserved c =
    map_item c.args.signatures.now c.loop-place.place c.item-signature.result.now c.item-signature.ensures (signature_declared c.args.types.now) c.loop-place.made c.push.new.self _ c.loop-place.invariant
    c.in_ok-push.ensures.ok (λ i. (c.in_ok-copy.ensures.ok i, c.in_ok-params.ensures.ok i))
