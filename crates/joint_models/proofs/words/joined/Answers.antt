use Rattle.std.proofs.Common.{sym, ◌∙◌}
use Rattle.model_kit.specs.declared.vocabulary.Signature.{Signature}
use Rattle.joint_models.proofs.Growing.{joined_miss, joined_hit}
use Rattle.joint_models.proofs.words.joined.Goals as goal
use Rattle.joint_models.proofs.words.joined.Goals.{then-not-has+in_ok-copy+in_ok-numbers_at+in_ok-push, else-not-has}

pub loop-place-preserved : goal.loop-place-preserved
loop-place-preserved c =
    elim c.if-not-has.branch [
      | then-not-has+in_ok-copy+in_ok-numbers_at+in_ok-push w ↦
          w.made-is
          ∙ joined_hit c.args.types.now c.args.planner.now.entries c.args.user.now c.loop-place.place c.item-entry.result.now c.item-entry.ensures (sym c.has.ensures ∙ w.if-not-has.true) c.loop-place.made w.push.new.self _ c.loop-place.invariant w.in_ok-push.ensures.ok
          (λ i. let made : Signature = record { name = w.in_ok-copy.ensures.ok i; params = w.in_ok-numbers_at.ensures.ok i } in made)
      | else-not-has w ↦
          w.made-is
          ∙ joined_miss c.args.types.now c.args.planner.now.entries c.args.user.now c.loop-place.place c.item-entry.result.now c.item-entry.ensures (sym c.has.ensures ∙ w.if-not-has.false) c.loop-place.made c.loop-place.invariant
    ]
