use Rattle.std.proofs.Common.{sym, ◌∙◌}
use Rattle.joint_models.proofs.Growing.{unknown_miss, unknown_hit}
use Rattle.joint_models.proofs.models.unknown_among.Goals as goal
use Rattle.joint_models.proofs.models.unknown_among.Goals.{then-not-has+else-place+in_ok-push, else-not-has}

pub loop-place-preserved : goal.loop-place-preserved
loop-place-preserved c =
    elim c.if-not-has.branch [
      | then-not-has+else-place+in_ok-push w ↦
          w.unknown-is
          ∙ unknown_hit c.args.known.now.entries c.args.actions.now c.loop-place.place c.item.result.now c.item.ensures (sym c.has.ensures ∙ w.if-not-has.true) c.loop-place.unknown w.push.new.self c.loop-place.invariant w.in_ok-push.ensures.ok
      | else-not-has w ↦
          w.unknown-is
          ∙ unknown_miss c.args.known.now.entries c.args.actions.now c.loop-place.place c.item.result.now c.item.ensures (sym c.has.ensures ∙ w.if-not-has.false) c.loop-place.unknown c.loop-place.invariant
    ]
